-- Rules 3, 4, 19, 6, 7, 8 and 20.
-- Each return by the rule that was broken first.
use mathlib.Core.Path.{sym, ◌∙◌}
use Rattle.std.proofs.lemmas.Result.{err_from_is_err_and}
use Rattle.bonds.proofs.Same.{listed-part}
use Rattle.molfile.proofs.Limits.{limited-refused, limited-over, limited-within, atoms-many, bonds-many, symbol-unknown, symbols-known}
use Rattle.molfile.proofs.read_atoms.Goals as goal

pub returns-then-n-gt128 : goal.returns-then-n-gt128
returns-then-n-gt128 c = atoms-many _ _ _ _ c.if-n-gt128.true

pub returns-then-m-gt1024 : goal.returns-then-m-gt1024
returns-then-m-gt1024 c = bonds-many _ _ _ _ c.if-n-gt128.false c.if-m-gt1024.true

pub returns-then-not-symbols_kept : goal.returns-then-not-symbols_kept
returns-then-not-symbols_kept c =
    symbol-unknown _ _ _ _ c.if-n-gt128.false c.if-m-gt1024.false (sym c.if-not-symbols_kept.ensures)

pub returns-in_err-molecule : goal.returns-in_err-molecule
returns-in_err-molecule c =
    let p = err_from_is_err_and c.from_residual.result c.from_residual.ensures.1 in
    rw (p.1, p.2)
    (limited-refused _ _ (c.in_err-molecule.ensures ∙ listed-part _ _ _ c.requires.bonds_fit)
    ∙ symbols-known _ _ _ _ c.if-n-gt128.false c.if-m-gt1024.false (sym c.if-not-symbols_kept.ensures))

pub returns-then-not-neighbours_kept : goal.returns-then-not-neighbours_kept
returns-then-not-neighbours_kept c =
    let read = c.in_ok-molecule.ensures ∙ listed-part _ _ _ c.requires.bonds_fit in
    limited-over _ _ read (sym c.if-not-neighbours_kept.ensures)
    ∙ symbols-known _ _ _ _ c.if-n-gt128.false c.if-m-gt1024.false (sym c.if-not-symbols_kept.ensures)

pub returns : goal.returns
returns c =
    let read = c.in_ok-molecule.ensures ∙ listed-part _ _ _ c.requires.bonds_fit in
    limited-within _ _ read (sym c.if-not-neighbours_kept.ensures)
    ∙ symbols-known _ _ _ _ c.if-n-gt128.false c.if-m-gt1024.false (sym c.if-not-symbols_kept.ensures)
