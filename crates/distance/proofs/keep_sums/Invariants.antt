-- `distance::keep_sums` meets its contract. The invariant is `Summing`: the sums of the atoms taken are stored.
-- Each turn takes the lowest atom that is left; the measure is what is left.
use Rattle.atomset.specs.Set.{has, linked_by}
use Rattle.atomset.proofs.Size.{size}
use Rattle.distance.proofs.Sums.{Summing}
use Rattle.distance.proofs.keep_sums.Given as goal

abbrev pub invariant-loop-front : goal.invariant-loop-front
invariant-loop-front l =
    Summing (linked_by l.table) (has l.front) (has l.initial.left) (has l.left) l.initial.numbers l.numbers

abbrev pub decreases-loop-front : goal.decreases-loop-front
decreases-loop-front l = size (has l.left) 128
