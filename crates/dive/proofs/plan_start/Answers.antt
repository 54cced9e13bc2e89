-- `dive::plan_start` meets its contract: the beginning is planned by its two sets, or, where it is too short for them,
-- as the first plan tells. By `starts-steered` and `starts-short`.
use native.Mathlib.Omega.{arith}
use Prim.Native.Nat.{◌≤◌}
use lib.ListN.{length, length-set}
use Rattle.openness.specs.Plan.{first_length}
use Rattle.dive.specs.declared.Level.{Level}
use Rattle.openness.proofs.Aims.{opened-place, opened-room}
use Rattle.dive.proofs.Entries.{longer-room, own-room, starts-steered, starts-short, one-word}
use Rattle.dive.proofs.plan_start.Goals as goal

-- ---- by its two sets

pub bounds-levels-len : goal.bounds-levels-len
bounds-levels-len c = own-room c.requires c.aim_at-aim.ensures.some

pub steps_left-steps-requires : goal.steps_left-steps-requires
steps_left-steps-requires c = opened-room c.requires.begun c.aim_at-aim.ensures.some

pub plan_level-requires : goal.plan_level-requires
plan_level-requires c =
    let pre = c.requires in
    let some = c.aim_at-aim.ensures.some in
    let (low, high) = opened-place pre.begun _ (omega arith) c.from.ensures in (
      pre.begun.words.both_ways,
      pre.begun.short,
      low,
      high,
      omega (arith, longer-room pre some, length-set {A = Level}),
    )

pub returns-then-first_length-len : goal.returns-then-first_length-len
returns-then-first_length-len c told =
    let long : first_length c.args.wanted.kind ≤ length c.args.beginning.now = omega arith in
    starts-steered c.requires c.aim_at-aim.ensures.some long (rw (← c.from.ensures) at c.aim_at-aim.ensures)
    c.from.ensures (rw (c.keep_aim.ensures, c.steps_left-steps.ensures) at c.plan_level.ensures)

-- ---- by the first plan

pub bounds-levels-len-in-Some : goal.bounds-levels-len-in-Some
bounds-levels-len-in-Some c = own-room c.requires (omega arith)

pub bounds-levels-len-in-Some-2 : goal.bounds-levels-len-in-Some-2
bounds-levels-len-in-Some-2 c = omega (arith, own-room c.requires (omega arith), length-set {A = Level})

pub returns-in-Some : goal.returns-in-Some
returns-in-Some c told =
    rw (c.keep_rest.ensures, c.keep_aim-in-Some.ensures)
    (starts-short c.requires (omega arith) c.union-rest.result (omega arith) c.in-Some.is
    (one-word _ c.if-len-eq1.true c.if-beginning-kept.true) c.union-rest.ensures)
