-- `openness::ring_aim` meets its contract: the two sets steer the rings that begin with s and a.
-- By `ring-aimed`, from what each call ensures.
use Rattle.openness.proofs.Aims.{ring-aimed}
use Rattle.openness.proofs.ring_aim.Goals as goal

pub returns : goal.returns
returns c =
    ring-aimed c.requires c.row-row.ensures c.range-above.ensures c.range-low.ensures
    c.intersection-goal.ensures c.minus-free.ensures
