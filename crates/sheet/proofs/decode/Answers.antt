-- Every line of a sheet, and the numbers of the first 1,025.
-- A line is read as none where it breaks rule 2.
use native.Mathlib.Omega.{arith}
use mathlib.Core.Path.{sym, ◌∙◌}
use Rattle.std.proofs.lemmas.Result.{err_from_is_err_and}
use Rattle.sheet.proofs.Lines.{decoding-bad, decoding-more, decoding-all}
use Rattle.sheet.proofs.decode.Goals as goal

pub returns-in_err-values : goal.returns-in_err-values
returns-in_err-values c =
    let p = err_from_is_err_and c.from_residual.result c.from_residual.ensures.1 in
    let none = c.in_err-values.ensures.ok_part in
    let bad = decoding-bad c.loop-i.invariant c.loop-i-test.true (sym c.line.ensures ∙ none) in
    let said = rw none at c.in_err-values.ensures.value in
    rw (p.1, p.2) (cc, bad)

pub loop-i-preserved : goal.loop-i-preserved
loop-i-preserved c =
    decoding-more c.loop-i.invariant c.loop-i-test.true (sym c.line.ensures ∙ c.in_ok-values.ensures.ok_part)
    c.min-place.ensures

pub returns : goal.returns
returns c = decoding-all c.loop-i.invariant (omega arith)
