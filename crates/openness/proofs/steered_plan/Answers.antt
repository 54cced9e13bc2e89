-- `openness::steered_plan` meets its contract: the plan by the sets that steer the beginning.
-- Its last atom is an atom since the beginning is open.
use native.Mathlib.Omega.{arith}
use Rattle.openness.proofs.Aims.{first_some, opened-place, opened-room, opened-each, steered-last}
use Rattle.openness.proofs.steered_plan.Goals as goal

pub aim_after-next-requires : goal.aim_after-next-requires
aim_after-next-requires c =
    let some = first_some c.args.wanted.kind in
    opened-place c.requires.0 _ (omega arith) c.from-x.ensures

pub swept_plan-requires : goal.swept_plan-requires
swept_plan-requires c =
    let some = first_some c.args.wanted.kind in
    let (low, high) = opened-place c.requires.0 _ (omega arith) c.from-x.ensures in
    (c.requires.0.words.both_ways, c.aim_after-next.ensures, low, high)

pub steps_left-steps-requires : goal.steps_left-steps-requires
steps_left-steps-requires c =
    let some = first_some c.args.wanted.kind in
    opened-room c.requires.0 (omega arith)

pub returns : goal.returns
returns c =
    let some = first_some c.args.wanted.kind in
    c.swept_plan.ensures _ _ _ (steered-last c.from-x.ensures c.aim_at-aim.ensures)
    (opened-each c.requires.0 (omega arith) c.from-x.ensures) c.steps_left-steps.ensures
