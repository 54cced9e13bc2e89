-- The invariant is `Diving`, for any family that the sets steer; the measure is the trials up to `most`, and the length
-- of the beginning.
use Prim.Native.Nat.{◌+◌, ◌-◌, ◌*◌}
use Rattle.dive.specs.Parts.{Descent}
use Rattle.dive.proofs.Descents.{Diving}
use Rattle.dive.proofs.dive.Given as goal

abbrev pub invariant-loop-at : goal.invariant-loop-at
invariant-loop-at l =
    (d : Descent l.wanted l.most l.fn.from l.initial.prefix l.initial.levels l.initial.out) →
    Diving d l.prefix l.levels l.out l.at l.used

abbrev pub decreases-loop-at : goal.decreases-loop-at
decreases-loop-at l = 129 * (l.most - l.at.trials) + l.at.len
