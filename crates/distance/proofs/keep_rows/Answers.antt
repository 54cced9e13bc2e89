-- `distance::keep_rows` meets its contract. The invariant is `Storing`: the rows of the atoms taken are stored.
-- Each turn takes the lowest atom that is left; the measure is what is left.
use Rattle.atomset.proofs.Size.{rest-fewer}
use Rattle.distance.proofs.Rows.{storing-more, storing-end}
use Rattle.distance.proofs.keep_rows.Goals as goal

pub loop-front-smaller : goal.loop-front-smaller
loop-front-smaller c = rest-fewer c.without_lowest-rest.ensures

pub loop-front-preserved : goal.loop-front-preserved
loop-front-preserved c =
    storing-more c.intersection-near.result c.loop-front.invariant c.lowest-v.ensures c.without_lowest-rest.ensures
    (λ b. rw (c.intersection-near.ensures b, c.row-row.ensures b))

pub returns : goal.returns
returns c =
    storing-end c.loop-front.invariant (c.is_empty.ensures.none c.loop-front-test.false)
