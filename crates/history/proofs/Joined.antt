-- Two lists of calls, the second made after the first, are one.
-- By induction on the first.
use mathlib.Core.Path.{◌≡◌, refl}
use mathlib.Core.List.{List, [], ◌∷◌, ◌++◌}
use Rattle.molecule.specs.declared.Molecule.{Molecule}
use Rattle.history.specs.Calls.{Call, Standing, after_call, standing, History}

pub standing-joined :
    (calls more : List Call) (x : Standing) → standing x (calls ++ more) ≡ standing (standing x calls) more
unfolding standing
standing-joined [] more x = refl
standing-joined (call ∷ calls) more x = standing-joined calls more (after_call x call)

pub history-joined :
    (R : Molecule) (calls more : List Call) (x : Standing) →
    History R x calls → History R (standing x calls) more → History R x (calls ++ more)
unfolding standing
history-joined R [] more x h g = g
history-joined R (call ∷ calls) more x (allowed, later) g =
    (allowed, history-joined R calls more (after_call x call) later g)
