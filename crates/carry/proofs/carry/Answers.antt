-- `carry::carry` meets its contract: the sheet is refused, the mark is, or the mark of its search is saved.
-- The search of an accepted mark keeps rule 12, on a molecule that keeps rule 9.
use mathlib.Core.Path.{sym, ◌∙◌}
use Rattle.refusal.proofs.Passed.{handed_on}
use Rattle.sheet.proofs.Accepted.{accepted-well-formed}
use Rattle.search.proofs.FormLaws.{form-restorable}
use Rattle.carry.proofs.Answers.{sheet-refuses, mark-refuses, saves}
use Rattle.carry.proofs.carry.Goals as goal

pub returns-in_err-m : goal.returns-in_err-m
returns-in_err-m c =
    rw (handed_on _ c.from_residual.ensures.1)
    (sheet-refuses _ _ _ _ _ (sym c.read_sheet.ensures ∙ c.in_err-m.was))

pub restore_in-requires : goal.restore_in-requires
restore_in-requires c = accepted-well-formed c.args.sheet.now _ (sym c.read_sheet.ensures ∙ c.in_ok-m.was)

pub returns-in_err-q : goal.returns-in_err-q
returns-in_err-q c =
    rw (handed_on _ c.from_residual-in_err-q.ensures.1)
    (mark-refuses _ _ _ _ _ (sym c.read_sheet.ensures ∙ c.in_ok-m.was) (sym c.restore_in.ensures ∙ c.in_err-q.was))

pub save_in-requires : goal.save_in-requires
save_in-requires c =
    let (formed, kept, full) =
    form-restorable c.args.from _ c.args.mark.now _ (sym c.restore_in.ensures ∙ c.in_ok-q.was) in
    (formed, kept)

pub returns : goal.returns
returns c =
    saves _ _ _ _ _ (sym c.read_sheet.ensures ∙ c.in_ok-m.was) (sym c.restore_in.ensures ∙ c.in_ok-q.was)
    c.save_in.ensures
