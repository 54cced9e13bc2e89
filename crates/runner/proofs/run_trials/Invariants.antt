-- The invariant is `Looping`, the rest of the work; the measure is the budget that is left.
use Prim.Native.Nat.{◌-◌}
use Rattle.runner.proofs.Trials.{task_of, Looping}
use Rattle.runner.proofs.run_trials.Given as goal

abbrev pub invariant-loop-plan : goal.invariant-loop-plan
invariant-loop-plan l =
    Looping (task_of l.wanted l.q l.budget l.initial.out) l.initial.levels l.levels l.out l.prefix l.at l.plan l.first
    l.used l.made

abbrev pub decreases-loop-plan : goal.decreases-loop-plan
decreases-loop-plan l = l.budget - l.made
