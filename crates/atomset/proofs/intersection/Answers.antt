-- `atomset::intersection` meets its contract: an atom is in the result when it is in both sets.
-- Bit by bit, by `has-intersection`.
use Rattle.atomset.proofs.Members.{has-intersection}
use Rattle.atomset.proofs.intersection.Goals as goal

pub returns : goal.returns
returns c = has-intersection c.args.x c.args.y
