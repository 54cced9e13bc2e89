-- Rules 2 to 8 of a sheet of whole lines, in their order.
-- Each return by the rule that was broken first; the stored numbers are the sheet's.
use native.Mathlib.Omega.{arith}
use mathlib.Core.Path.{◌∙◌}
use Rattle.std.proofs.lemmas.Result.{err_from_is_err_and}
use Rattle.sheet.proofs.Answers.{first-line, sheet-bytes}
use Rattle.sheet.proofs.Reading.{stored-atoms, stored-bonds, stored-size, stored-read}
use Rattle.sheet.proofs.read_lines.Goals as goal

pub bounds-values-0 : goal.bounds-values-0
bounds-values-0 c = omega (arith, first-line _ c.requires.whole)

pub bounds-values-0-2 : goal.bounds-values-0-2
bounds-values-0-2 c = omega (arith, first-line _ c.requires.whole)

pub returns-in_err-decode : goal.returns-in_err-decode
returns-in_err-decode c =
    let p = err_from_is_err_and c.from_residual.result c.from_residual.ensures.1 in
    let (is, broken) = c.in_err-decode.ensures in
    rw (p.1, p.2, is) (sheet-bytes _ c.requires.whole broken)

pub returns-then-n-gt128 : goal.returns-then-n-gt128
returns-then-n-gt128 c =
    stored-atoms c.requires c.in_ok-decode.ensures c.from-n.ensures c.from-m.ensures c.if-n-gt128.true

pub returns-then-m-gt1024 : goal.returns-then-m-gt1024
returns-then-m-gt1024 c =
    stored-bonds c.requires c.in_ok-decode.ensures c.from-n.ensures c.from-m.ensures c.if-n-gt128.false
    c.if-m-gt1024.true

pub returns-then-s-m : goal.returns-then-s-m
returns-then-s-m c =
    stored-size c.requires c.in_ok-decode.ensures c.from-n.ensures c.from-m.ensures c.if-n-gt128.false
    c.if-m-gt1024.false c.if-s-m.true

pub returns : goal.returns
returns c =
    c.read_bonds.ensures
    ∙ stored-read c.requires c.in_ok-decode.ensures c.from-n.ensures c.from-m.ensures c.if-n-gt128.false
    c.if-m-gt1024.false c.if-s-m.false
    (omega (arith, c.decode.auto.values, c.requires.lines, c.if-s-m.false, c.if-m-gt1024.false))
