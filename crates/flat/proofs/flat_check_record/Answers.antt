-- Rule 9 on flat buffers.
-- The assembled record is the one of the definition.
use mathlib.Core.Path.{ap, sym, ◌∙◌}
use borrow.Author.Tests.{eq-eqb, ne_eqb}
use Rattle.molecule.specs.Record.{well_formed}
use Rattle.flat.specs.Codes.{check_code}
use Rattle.flat.proofs.flat_check_record.Goals as goal

pub returns-then-rows-ne2048 : goal.returns-then-rows-ne2048
unfolding check_code
returns-then-rows-ne2048 c = rw (ne_eqb _ 2048 c.if-rows-ne2048.true)

pub returns-then-well_formed : goal.returns-then-well_formed
unfolding check_code
returns-then-well_formed c =
    let checked = sym (c.well_formed-2.ensures ∙ ap well_formed c.assemble.ensures) in
    rw (eq-eqb _ 2048 c.if-rows-ne2048.false, checked ∙ c.if-well_formed.true)

pub returns : goal.returns
unfolding check_code
returns c =
    let checked = sym (c.well_formed-2.ensures ∙ ap well_formed c.assemble.ensures) in
    rw (eq-eqb _ 2048 c.if-rows-ne2048.false, checked ∙ c.if-well_formed.false, c.number.ensures)
