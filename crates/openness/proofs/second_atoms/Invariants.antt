-- `openness::second_atoms` meets its contract. The invariant is `Sifted`: what is told of the atoms taken so far.
-- Each turn takes the lowest atom that is left as the last one of a ring; the measure is what is left.
use Rattle.atomset.specs.Set.{has}
use Rattle.atomset.proofs.Size.{size}
use Rattle.openness.proofs.Rings.{Sifted}
use Rattle.openness.proofs.second_atoms.Given as goal

abbrev pub invariant-loop-between : goal.invariant-loop-between
invariant-loop-between l = Sifted l.n l.table l.most l.s l.left l.shut l.found

abbrev pub decreases-loop-between : goal.decreases-loop-between
decreases-loop-between l = size (has l.left) 128
