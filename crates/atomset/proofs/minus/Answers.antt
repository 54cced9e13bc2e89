-- `atomset::minus` meets its contract: an atom is in the result when it is in x and not in y.
-- Bit by bit, by `has-minus`: no place borrows from the next.
use Rattle.atomset.proofs.Members.{has-minus}
use Rattle.atomset.proofs.minus.Goals as goal

pub returns : goal.returns
returns c = has-minus c.args.x c.args.y
