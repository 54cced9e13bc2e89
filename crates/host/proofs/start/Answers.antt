-- `host::start` meets its contract: each way out is one answer of the definition.
-- The three refusals leave the output as it was; the last way writes the mark of a fresh search, which has room.
use mathlib.Core.Path.{refl, sym, ◌∙◌}
use Rattle.refusal.proofs.Passed.{handed_on}
use Rattle.sheet.proofs.Accepted.{accepted-well-formed}
use Rattle.bond_writer.proofs.Splices.{splice-start}
use Rattle.mark_writer.proofs.MarkSplices.{own-lines-none}
use Rattle.host.specs.Gate.{gated}
use Rattle.host.proofs.Answers.{room-kept}
use Rattle.host.proofs.Fresh.{start_fits}
use Rattle.host.proofs.start.Goals as goal

pub returns-in_err-m : goal.returns-in_err-m
unfolding gated
returns-in_err-m c = rw (handed_on _ c.from_residual.ensures.1, ← c.in_err-m.ensures) (refl, refl)

pub returns-in_err-q : goal.returns-in_err-q
unfolding gated
returns-in_err-q c =
    rw (handed_on _ c.from_residual-in_err-q.ensures.1, ← c.in_ok-m.ensures, ← c.in_err-q.ensures) (refl, refl)

pub returns-in_err-ask_room : goal.returns-in_err-ask_room
unfolding gated
returns-in_err-ask_room c =
    rw (handed_on _ c.from_residual-in_err-ask_room.ensures.1, ← c.in_ok-m.ensures, ← c.in_ok-q.ensures)
    (rw (← c.in_err-ask_room.ensures) (refl, refl))

pub put_mark-requires : goal.put_mark-requires
put_mark-requires c =
    let formed = accepted-well-formed _ _ (sym c.in_ok-m.ensures) in
    let room = room-kept _ (sym c.in_ok-ask_room.ensures) in
    (start_fits _ _ _ _ _ _ formed (sym c.in_ok-q.ensures) room, own-lines-none _ _ refl)

pub returns : goal.returns
unfolding gated
returns c =
    rw (← c.in_ok-m.ensures, ← c.in_ok-q.ensures, ← c.in_ok-ask_room.ensures)
    (refl, c.put_mark.ensures ∙ splice-start _ _)
