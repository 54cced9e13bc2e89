-- The molfile reader: rule 18, then the rules on what the lines name.
use mathlib.Core.Path.{◌∙◌}
use Rattle.std.proofs.lemmas.Result.{err_from_is_err_and}
use Rattle.molfile.proofs.Whole.{same_refusal, not-read, all_read}
use Rattle.molfile.proofs.read_parts.Goals as goal

pub returns-in_err-n : goal.returns-in_err-n
returns-in_err-n c =
    let p = err_from_is_err_and c.from_residual.result c.from_residual.ensures.1 in
    let none = c.in_err-n.ensures.ok_part in
    let said = rw none at c.in_err-n.ensures.value in
    let bad = rw none at c.read_lines.ensures in
    rw (p.1, p.2, same_refusal said) (not-read _ bad)

pub returns : goal.returns
returns c =
    let some = c.in_ok-n.ensures.ok_part in
    let read = rw some at c.read_lines.ensures in
    c.read_atoms.ensures ∙ all_read c.args.s.now read
