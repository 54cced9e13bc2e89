-- `distance::sum_over` meets its contract. The invariant is `Summed`: the sum so far and that of the atoms left are the
-- sum of all. Each turn takes the lowest atom that is left; the measure is what is left.
use Rattle.atomset.specs.Set.{has}
use Rattle.atomset.proofs.Size.{size}
use Rattle.distance.proofs.Sums.{Summed}
use Rattle.distance.proofs.sum_over.Given as goal

abbrev pub invariant-loop-left : goal.invariant-loop-left
invariant-loop-left l = Summed l.numbers (has l.initial.left) (has l.left) l.sum

abbrev pub decreases-loop-left : goal.decreases-loop-left
decreases-loop-left l = size (has l.left) 128
