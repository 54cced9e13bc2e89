-- `distance::keep_sums` meets its contract. The invariant is `Summing`: the sums of the atoms taken are stored.
-- Each turn takes the lowest atom that is left; the measure is what is left.
use Rattle.atomset.proofs.Size.{rest-fewer}
use Rattle.distance.proofs.Sums.{summing-more}
use Rattle.distance.proofs.keep_sums.Goals as goal

pub loop-front-smaller : goal.loop-front-smaller
loop-front-smaller c = rest-fewer c.without_lowest-rest.ensures

pub loop-front-preserved : goal.loop-front-preserved
loop-front-preserved c =
    summing-more c.intersection-before.result c.loop-front.invariant c.lowest-v.ensures c.without_lowest-rest.ensures
    (λ b. rw (c.intersection-before.ensures b, c.row-row.ensures b)) c.sum_over-sum.ensures
