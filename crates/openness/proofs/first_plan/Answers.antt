-- `openness::first_plan` meets its contract: one atom makes no ring, and two open by the second atoms.
-- By `seconds-tell`.
use mathlib.Core.Path.{refl}
use Rattle.openness.proofs.Rings.{seconds-tell}
use Rattle.openness.proofs.first_plan.Goals as goal

pub returns : goal.returns
returns c =
    let tells = seconds-tell _ _ c.empty-members.ensures c.second_atoms-opens.ensures in
    record { atom_is = refl; tells = rw c.from.ensures at tells }
