-- Rules 6 and 7 over the bonds, in one pass.
-- Invariant: the bonds passed have both atoms in range, and `apart` tells whether none joins an atom to itself.
use Rattle.std.proofs.Common.{length}
use Rattle.bonds.specs.Parts.{listed}
use Rattle.bonds.proofs.Stored.{BondsPassed}
use Rattle.bonds.proofs.check_bonds.Given as goal

abbrev pub invariant-loop-left : goal.invariant-loop-left
invariant-loop-left l = BondsPassed l.n (listed l.bonds) (length l.bonds) l.left-index l.apart
