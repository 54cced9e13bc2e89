-- `runner::run_trials` meets its contract. The invariant is `Looping`, the rest of the work; the measure is the budget
-- that is left. What the tests, the plan and the record tell is said once at each place.
use Prim.Native.Nat.{◌+◌, ◌≤◌}
use native.Mathlib.Omega.{arith}
use mathlib.Core.Path.{refl, sym, ◌∙◌}
use Rattle.openness.specs.Plan.{family_wanted}
use Rattle.openness.proofs.Arrays.{taken-length}
use Rattle.trial.specs.Parts.{state_at, skip}
use Rattle.runner.proofs.Trials.{task_of, Turning, Trying, Written, Kept, starts, next-most, stops, tries, answers}
use Rattle.runner.proofs.Trials.{next-range, next-in-set, counting, room-in-part, member-told}
use Rattle.runner.proofs.Trials.{written_none, written-record, not_first, turn, stops-full}
use Rattle.runner.proofs.Skips.{skips, skips-none}
use Rattle.runner.proofs.Dives.{begun, entering, dives}
use Rattle.runner.proofs.run_trials.Goals as goal
use Rattle.runner.proofs.run_trials.Goals.{in-Some, in-None, then-is_stale, else-is_stale}
use Rattle.runner.proofs.run_trials.Goals.{then-lists+else-out-used, else-lists}
use Rattle.runner.proofs.run_trials.Goals.{in-Some-stop_before, in_default+then-lists+then-out-used}

pub loop-plan-init : goal.loop-plan-init
loop-plan-init c =
    record {
      turning = rw c.of-at.ensures (starts _ _ c.requires.0);
      tells = λ kept e. absurd (cc);
      sized = refl;
    }

-- ---- the trials that are skipped

skipped :
    (c : goal.Joined-plan) →
    let loop = c.loop-plan in
    let args = c.args in
    Turning (task_of args.wanted args.q args.budget args.out.now) loop.out loop.prefix (skip c.match-plan.idle loop.at)
    c.match-plan.plan loop.used (loop.made + c.match-plan.idle)
skipped c =
    let t = c.loop-plan.invariant.turning in
    elim c.match-plan.branch [
      | in-Some w ↦
          rw (w.idle-is, w.plan-is) (skips _ (rw w.in-Some.is at t) w.idle_trials-idle.ensures)
      | in-None w ↦ rw (w.idle-is, w.plan-is) (skips-none t)
    ]

small : (c : goal.Joined-plan) → c.match-plan.idle ≤ 128
small c = elim c.match-plan.branch [
  | in-Some w ↦ rw w.idle-is w.idle_trials-idle.ensures.small
  | in-None w ↦ rw w.idle-is (omega arith)
]

pub skipped-at-requires : goal.skipped-at-requires
skipped-at-requires c =
    let t = c.loop-plan.invariant.turning in
    (omega (arith, next-most t, t.few), t.bounded.trials_most, small (search))

-- ---- the plan

pub found_at-found-requires : goal.found_at-found-requires
found_at-found-requires c =
    let turning = rw (← c.skipped-at.ensures) at (skipped (search)) in
    let t = tries turning (sym c.stop_before.ensures ∙ c.in_default.is) in (
      record {
        begun = begun c.requires.0 turning;
        low = (next-range t).0;
        high = (next-range t).1;
        tells = c.loop-plan.invariant.tells;
      },
      turning.told,
    )

trying :
    (c : goal.After-contains-arg-1) →
    let loop = c.loop-plan in
    let args = c.args in
    Trying (task_of args.wanted args.q args.budget args.out.now) loop.out loop.prefix c.skipped-at.result
    c.match-plan.plan loop.used (loop.made + c.match-plan.idle)
trying c =
    let turning = rw (← c.skipped-at.ensures) at (skipped (search)) in
    tries turning (sym c.stop_before.ensures ∙ c.in_default.is)

pub contains-lists-requires : goal.contains-lists-requires
contains-lists-requires c = next-in-set (trying (search))

-- ---- the record

pub put_record-requires : goal.put_record-requires
put_record-requires c =
    let t = trying (search) in
    let standing = t.turning.standing in
    let size = taken-length c.loop-plan.prefix c.skipped-at.result.len standing.within.size standing.within.most in
    (rw size standing.short, (next-in-set t).1, rw size (room-in-part t.turning c.if-out-used.false))

written :
    (c : goal.After-contains-arg-in-loop-plan-1) →
    let loop = c.loop-plan in
    let st = state_at loop.prefix c.skipped-at.result in
    Written (family_wanted c.args.wanted) loop.out loop.used st c.if-lists.out c.if-lists.used
written c =
    let t = trying (search) in
    let standing = t.turning.standing in
    let size = taken-length c.loop-plan.prefix c.skipped-at.result.len standing.within.size standing.within.most in
    let member = sym (member-told t c.found_at-found.ensures.ahead) ∙ sym c.contains-lists.ensures in
    elim c.if-lists.branch [
      | then-lists+else-out-used w ↦
          written-record t (member ∙ w.if-lists.true) w.if-out-used.false (rw size at w.put_record.ensures) w.out-is
          w.used-is
      | else-lists w ↦ rw (w.out-is, w.used-is) (written_none _ _ _ _ (member ∙ w.if-lists.false))
    ]

-- ---- the trial

pub contains-opens-requires : goal.contains-opens-requires
contains-opens-requires c = next-in-set (trying (search))

pub act-spot-requires : goal.act-spot-requires
act-spot-requires c = let t = trying (search) in (t.turning.standing, counting t)

-- a plan that is kept is that of the beginning, which is as long as it was
plan-kept :
    (c : goal.After-descend-arg-in-loop-plan-1) →
    Kept c.skipped-at.result.len c.act-spot.result.len c.found_at-found.result.plan c.if-is_stale.plan
plan-kept c = elim c.if-is_stale.branch [
  | then-is_stale w ↦ rw w.plan-is (λ kept e. absurd (cc))
  | else-is_stale w ↦ rw w.plan-is (λ kept e. (cc, c.is_stale.ensures.same w.if-is_stale.false))
]

turned :
    (c : goal.After-descend-arg-in-loop-plan-1) →
    let loop = c.loop-plan in
    let args = c.args in
    Turning (task_of args.wanted args.q args.budget args.out.now) c.if-lists.out c.act-spot.new.prefix c.act-spot.result
    c.if-is_stale.plan c.if-lists.used (loop.made + c.match-plan.idle + 1)
turned c =
    turn (trying (search)) c.found_at-found.ensures.ahead (written (search)) c.contains-lists.ensures
    c.contains-opens.ensures c.act-spot.ensures (plan-kept c)

pub descend-dived-requires : goal.descend-dived-requires
descend-dived-requires c =
    entering c.requires.0 (turned (search)) c.found_at-found.ensures.tells
    (omega (arith, c.requires.1, c.loop-plan.invariant.sized))

pub loop-plan-preserved : goal.loop-plan-preserved
loop-plan-preserved c =
    record {
      turning =
          dives (turned (search)) c.descend-dived.ensures
          (λ found e. not_first (trying (search)) c.act-spot.ensures (plan-kept (search) found e).1);
      tells = c.found_at-found.ensures.tells;
      sized = c.descend-dived.auto.levels ∙ c.loop-plan.invariant.sized;
    }

-- ---- the ways out: done, limit, spent, full

pub returns : goal.returns
returns c =
    let turning = rw (← c.skipped-at.ensures) at (skipped (search)) in
    answers turning c.args.q c.search_at-search.ensures
    (elim c.match-stop_before.branch [
      | in-Some-stop_before w ↦ rw w.stop-is (stops turning (sym c.stop_before.ensures ∙ w.in-Some-stop_before.is))
      | in_default+then-lists+then-out-used w ↦
          let t = tries turning (sym c.stop_before.ensures ∙ w.in_default.is) in
          let member = sym (member-told t w.found_at-found.ensures.ahead) ∙ sym w.contains-lists.ensures in
          rw w.stop-is (stops-full t (member ∙ w.if-lists.true) w.if-out-used.true)
    ])
