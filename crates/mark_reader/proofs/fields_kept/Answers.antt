-- `mark_reader::fields_kept` meets its contract.
-- The invariant: the first i fields are such as a mark accepts.
use mathlib.Core.Path.{refl, ◌∙◌}
use Rattle.search.specs.Mark.{fields_kept}
use Rattle.mark_reader.proofs.Layouts.{told, passed-fails, passed-more}
use Rattle.mark_reader.proofs.fields_kept.Goals as goal

pub loop-i-init : goal.loop-i-init
unfolding fields_kept
loop-i-init c = refl

pub returns-then-not-blanks_only : goal.returns-then-not-blanks_only
returns-then-not-blanks_only c =
    let bad = told c.number_at.ensures c.blanks_only.ensures ∙ c.if-not-blanks_only.true in
    passed-fails _ c.args.bytes.now _ _ _ c.loop-i-test.true bad

pub loop-i-preserved : goal.loop-i-preserved
loop-i-preserved c =
    let good = told c.number_at.ensures c.blanks_only.ensures ∙ c.if-not-blanks_only.false in
    passed-more c.args.columns c.args.bytes.now c.args.at c.args.k c.loop-i.i c.loop-i.invariant good
