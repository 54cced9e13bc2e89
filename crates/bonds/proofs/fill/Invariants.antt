-- Rule 8, and the rows of the bonds.
-- Invariant: the rows are those of the bonds passed, none of them twice; a set bit is a bond listed before.
use Rattle.std.proofs.Common.{length}
use Rattle.bonds.specs.Parts.{listed}
use Rattle.bonds.proofs.Filling.{Filled}
use Rattle.bonds.proofs.fill.Given as goal

abbrev pub invariant-loop-left : goal.invariant-loop-left
invariant-loop-left l = Filled (listed l.bonds) (length l.bonds) l.left-index l.rows
