-- `host::resume` meets its contract: each way out is one answer of the definition. Three leave both outputs as they
-- were; the last is the run and the save, of a molecule, a search and a mark as `run_and_save` requires them.
use mathlib.Core.Path.{refl, sym}
use Rattle.refusal.proofs.Passed.{handed_on}
use Rattle.sheet.proofs.Accepted.{accepted-well-formed}
use Rattle.host.specs.Gate.{gated}
use Rattle.host.proofs.Laws.{Begun, begun}
use Rattle.host.proofs.resume.Goals as goal

pub returns-in_err-m : goal.returns-in_err-m
unfolding gated
returns-in_err-m c = rw (handed_on _ c.from_residual.ensures.1, ← c.in_err-m.ensures) (refl, refl, refl)

pub search_for-requires : goal.search_for-requires
search_for-requires c = accepted-well-formed _ _ (sym c.in_ok-m.ensures)

pub returns-in_err-q : goal.returns-in_err-q
unfolding gated
returns-in_err-q c =
    rw (handed_on _ c.from_residual-in_err-q.ensures.1, ← c.in_ok-m.ensures, ← c.in_err-q.ensures) (refl, refl, refl)

pub returns-in_err-ask_room : goal.returns-in_err-ask_room
unfolding gated
returns-in_err-ask_room c =
    rw (handed_on _ c.from_residual-in_err-ask_room.ensures.1, ← c.in_ok-m.ensures, ← c.in_ok-q.ensures)
    (rw (← c.in_err-ask_room.ensures) (refl, refl, refl))

pub run_and_save-requires : goal.run_and_save-requires
run_and_save-requires c =
    let formed = accepted-well-formed _ _ (sym c.in_ok-m.ensures) in
    let b : Begun c.in_ok-m.m c.args.mark.now c.in_ok-q.q = begun _ _ _ formed (sym c.in_ok-q.ensures) in
    (formed, b.kept, b.own)

pub returns : goal.returns
unfolding gated
returns c =
    rw (← c.in_ok-m.ensures, ← c.in_ok-q.ensures, ← c.in_ok-ask_room.ensures) c.run_and_save.ensures
