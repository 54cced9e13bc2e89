-- `atomset::is_empty` meets its contract: both words are 0.
-- By `emptiness`.
use Rattle.atomset.proofs.Members.{emptiness}
use borrow.Author.Rules.{rules}
use Rattle.atomset.proofs.is_empty.Goals as goal

pub returns : goal.returns
returns c = emptiness c.args.x (search rules) (λ i. search rules) c.eq.ensures
