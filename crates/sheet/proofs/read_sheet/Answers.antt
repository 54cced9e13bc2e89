-- The whole reader: rule 1, then rules 2 to 8 with an array that has room for the sheet's lines.
-- A small array holds 128 lines, the large one all that are stored.
use mathlib.Core.Path.{sym}
use Rattle.sheet.proofs.Answers.{sheet-ragged}
use Rattle.sheet.proofs.read_sheet.Goals as goal

pub returns-then-not-is_whole : goal.returns-then-not-is_whole
returns-then-not-is_whole c = sheet-ragged _ (sym c.if-not-is_whole.ensures)
