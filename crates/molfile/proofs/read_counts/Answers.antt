-- The line of counts.
-- Each return by the part of `counts_line_kept` that it met.
use Rattle.molfile.proofs.Columns.{counts-short, counts-no-pair, version-told, counts-no-version, counts-read}
use Rattle.molfile.proofs.read_counts.Goals as goal

pub returns-in_err-line : goal.returns-in_err-line
returns-in_err-line c = rw c.from_residual.ensures (counts-short c.args.s.now c.args.from c.in_err-line.ensures)

pub returns-in_err-atoms : goal.returns-in_err-atoms
returns-in_err-atoms c =
    rw c.from_residual-in_err-atoms.ensures
    (counts-no-pair c.args.s.now c.args.from c.requires c.in_ok-line.ensures c.in_err-atoms.ensures)

pub returns-then-not-starts_with : goal.returns-then-not-starts_with
returns-then-not-starts_with c =
    counts-no-version c.args.s.now c.args.from c.requires c.in_ok-line.ensures c.in_ok-atoms.ensures
    (version-told c.args.s.now c.args.from c.requires c.in_ok-line.ensures c.if-not-starts_with.ensures.value)

pub returns : goal.returns
returns c =
    counts-read c.args.s.now c.args.from c.requires c.in_ok-line.ensures c.in_ok-atoms.ensures
    (version-told c.args.s.now c.args.from c.requires c.in_ok-line.ensures c.if-not-starts_with.ensures.value)
    c.from.ensures c.from-2.ensures
