-- `dive::plan_added` meets its contract: the sets of the shortest beginning that they steer are made and kept, those of
-- a longer one were handed on; then it is planned. By `added-first` and `added-later`.
use native.Mathlib.Omega.{arith}
use mathlib.Core.Path.{refl, sym, ◌∙◌}
use Rattle.openness.proofs.Aims.{first_some, opened-room, opened-each}
use Rattle.dive.proofs.Levels.{steered-whole, added-first, added-later}
use Rattle.dive.proofs.plan_added.Goals as goal
use Rattle.dive.proofs.plan_added.Goals.{then-len-first_length, else-len-first_length}

pub steps_left-steps-requires : goal.steps_left-steps-requires
steps_left-steps-requires c =
    let pre = c.requires in opened-room pre.begun (omega (arith, first_some c.args.wanted.kind, pre.long))

pub plan_level-requires : goal.plan_level-requires
plan_level-requires c =
    let pre = c.requires in (
      pre.begun.words.both_ways,
      pre.begun.short,
      pre.low,
      pre.high,
      omega (arith, pre.sized, c.if-len-first_length.auto.levels),
    )

pub returns : goal.returns
returns c =
    let pre = c.requires in
    let some = first_some c.args.wanted.kind in
    let each = opened-each pre.begun (omega (arith, pre.long)) pre.last_is in
    elim c.if-len-first_length.branch [
      | then-len-first_length w ↦
          let first = w.if-len-first_length.true ∙ c.first_length.ensures in
          added-first each refl w.first_aim-aim.result (omega (arith, pre.sized)) first
          (steered-whole _ pre.last_is first w.first_aim-aim.ensures)
          (rw (w.levels-is, w.keep_aim.ensures, c.steps_left-steps.ensures) at c.plan_level.ensures)
      | else-len-first_length w ↦
          added-later each refl pre.long (λ e. w.if-len-first_length.false (e ∙ sym c.first_length.ensures))
          (rw (w.levels-is, c.steps_left-steps.ensures) at c.plan_level.ensures)
    ]
