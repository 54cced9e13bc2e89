-- One line of a sheet: two fields and a line feed.
-- Each return by the case of `line_kept` that it met.
use Prim.Native.Nat.{◌+◌, ◌*◌}
use mathlib.Core.Path.{sym, ◌∙◌}
use Rattle.sheet.proofs.Lines.{line-left-bad, line-right-bad, line-end-bad, line-read, field-small}
use Rattle.sheet.proofs.line.Goals as goal

pub returns-in_err-left : goal.returns-in_err-left
returns-in_err-left c = c.from_residual.ensures ∙ line-left-bad _ _ (sym c.in_err-left.ensures)

pub returns-in_err-right : goal.returns-in_err-right
returns-in_err-right c =
    c.from_residual-in_err-right.ensures
    ∙ line-right-bad _ _ (sym c.in_ok-left.ensures) (sym c.in_err-right.ensures)

pub returns-then-s-at-ne-LINE_FEED : goal.returns-then-s-at-ne-LINE_FEED
returns-then-s-at-ne-LINE_FEED c =
    line-end-bad _ _ (sym c.in_ok-left.ensures) (sym c.in_ok-right.ensures) c.if-s-at-ne-LINE_FEED.true

pub overflow_cast-result : goal.overflow_cast-result
overflow_cast-result c = record { fits = field-small c.args.s.now (9 * c.args.i) (sym c.in_ok-left.ensures) }

pub overflow_cast-result-2 : goal.overflow_cast-result-2
overflow_cast-result-2 c = record { fits = field-small c.args.s.now (9 * c.args.i + 4) (sym c.in_ok-right.ensures) }

pub returns : goal.returns
returns c = line-read _ _ (sym c.in_ok-left.ensures) (sym c.in_ok-right.ensures) c.if-s-at-ne-LINE_FEED.false
