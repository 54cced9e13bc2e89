-- Rule 18, part by part.
-- Each return by the part that breaks it, or by what the lines name.
use native.Mathlib.Omega.{arith}
use mathlib.Core.Path.{sym}
use Rattle.molfile.proofs.Whole.{no-fourth, no-counts-line, counted, no-atom-lines, named, no-bond-lines, no-end-line, all_named}
use Rattle.molfile.proofs.read_lines.Goals as goal

pub returns-in_err-header : goal.returns-in_err-header
returns-in_err-header c = rw c.from_residual.ensures (no-fourth _ c.in_err-header.ensures).broken

pub returns-in_err-counts : goal.returns-in_err-counts
returns-in_err-counts c =
    rw c.from_residual-in_err-counts.ensures (no-counts-line c.in_ok-header.ensures c.in_err-counts.ensures).broken

pub returns-in_err-atoms : goal.returns-in_err-atoms
returns-in_err-atoms c =
    rw c.from_residual-in_err-atoms.ensures
    (no-atom-lines (counted c.in_ok-header.ensures c.in_ok-counts.ensures) c.in_err-atoms.ensures).broken

pub returns-in_err-joined : goal.returns-in_err-joined
returns-in_err-joined c =
    rw c.from_residual-in_err-joined.ensures
    (no-bond-lines (named (counted c.in_ok-header.ensures c.in_ok-counts.ensures) c.in_ok-atoms.ensures)
    c.in_err-joined.ensures).broken

pub returns-then-not-has_end : goal.returns-then-not-has_end
returns-then-not-has_end c =
    (no-end-line (named (counted c.in_ok-header.ensures c.in_ok-counts.ensures) c.in_ok-atoms.ensures)
    c.in_ok-joined.ensures.0 (sym c.if-not-has_end.ensures)).broken

pub returns : goal.returns
returns c =
    all_named (named (counted c.in_ok-header.ensures c.in_ok-counts.ensures) c.in_ok-atoms.ensures)
    c.in_ok-joined.ensures.0 c.in_ok-joined.ensures.1
    (record {
      limits_fit = omega (arith, c.in_ok-counts.ensures.few-atoms);
      bonds_fit = omega (arith, c.in_ok-counts.ensures.few-bonds);
    })
    (sym c.if-not-has_end.ensures)
