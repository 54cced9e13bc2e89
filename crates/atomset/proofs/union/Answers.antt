-- `atomset::union` meets its contract: an atom is in the result when it is in either set.
-- Bit by bit, by `has-union`.
use Rattle.atomset.proofs.Members.{has-union}
use Rattle.atomset.proofs.union.Goals as goal

pub returns : goal.returns
returns c = has-union c.args.x c.args.y
