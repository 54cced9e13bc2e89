-- `host::count_shortest` meets its contract: each way out is one answer of the definition.
-- The two refusals leave the output as it was; the last way stores the number that the count answered.
use mathlib.Core.Path.{refl, sym}
use Rattle.refusal.proofs.Passed.{handed_on}
use Rattle.sheet.proofs.Accepted.{accepted-well-formed}
use Rattle.host.specs.Count.{count_sheet}
use Rattle.host.proofs.count_shortest.Goals as goal

pub returns-in_err-m : goal.returns-in_err-m
unfolding count_sheet
returns-in_err-m c = rw (handed_on _ c.from_residual.ensures.1, ← c.in_err-m.ensures) (refl, refl)

pub count_checked-requires : goal.count_checked-requires
count_checked-requires c = accepted-well-formed _ _ (sym c.in_ok-m.ensures)

pub returns-in_err-count : goal.returns-in_err-count
unfolding count_sheet
returns-in_err-count c =
    rw (handed_on _ c.from_residual-in_err-count.ensures.1, ← c.in_ok-m.ensures, ← c.in_err-count.ensures) (refl, refl)

pub returns : goal.returns
unfolding count_sheet
returns c = rw (← c.in_ok-m.ensures, ← c.in_ok-count.ensures) (refl, refl)
