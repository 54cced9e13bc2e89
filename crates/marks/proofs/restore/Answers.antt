-- `marks::restore` meets its contract, by rule 9.
-- The refusal is the law `restore-record`; past the test the contract is that of `restore_checked`.
use mathlib.Core.Path.{sym, ◌∙◌}
use Rattle.marks.proofs.Answers.{restore-record}
use Rattle.marks.proofs.restore.Goals as goal

pub restore_checked-requires : goal.restore_checked-requires
restore_checked-requires c = sym c.well_formed-2.ensures ∙ c.if-well_formed.true

pub returns-else-well_formed : goal.returns-else-well_formed
returns-else-well_formed c = restore-record _ _ (sym c.well_formed-2.ensures ∙ c.if-well_formed.false)
