-- `atomset::empty` meets its contract: two words that are 0 hold no atom.
-- By `has-empty`.
use Rattle.atomset.proofs.Members.{has-empty}
use Rattle.atomset.proofs.empty.Goals as goal

pub returns : goal.returns
returns c = has-empty
