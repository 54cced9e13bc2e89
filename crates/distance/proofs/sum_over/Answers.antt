-- `distance::sum_over` meets its contract. The invariant is `Summed`: the sum so far and that of the atoms left are the
-- sum of all. Each turn takes the lowest atom that is left; the measure is what is left.
use Rattle.atomset.proofs.Size.{rest-fewer}
use Rattle.distance.proofs.Sums.{summed-more, summed-end}
use Rattle.distance.proofs.sum_over.Goals as goal

pub loop-left-smaller : goal.loop-left-smaller
loop-left-smaller c = rest-fewer c.without_lowest-rest.ensures

pub loop-left-preserved : goal.loop-left-preserved
loop-left-preserved c =
    summed-more c.loop-left.invariant c.lowest-v.ensures c.without_lowest-rest.ensures c.added-more.ensures

pub returns : goal.returns
returns c =
    summed-end c.loop-left.invariant (c.is_empty.ensures.none c.loop-left-test.false)
