-- The sheet of a molfile (document 02, F-1): what the entry returns and leaves in its output.
use Rattle.std.specs.Prelude.{ℕ, List, Ok, Result}
use Rattle.refusal.specs.declared.Refusal.{Refusal}
use Rattle.refusal.specs.Answers.{◌>>=◌}
use Rattle.sheet.specs.Text.{record_sheet}
use Rattle.search.specs.Mark.{answer_with, output_with}
use Rattle.molfile.specs.Elements.{Table}
use Rattle.molfile.specs.Molfile.{read_molfile}

-- The sheet to be written: the molfile is read (rules 18, 3, 4, 19, 6, 7, 8, 20), and it is the blank-filled one of the
-- record
abbrev pub sheet_of : Table → List ℕ → Result (List ℕ) Refusal
sheet_of table file = read_molfile table file >>= λ mol. Ok (record_sheet mol)

-- It is written where it has room (rule 13); the number of bytes written
unfoldable pub sheet_answer : Table → List ℕ → List ℕ → Result ℕ Refusal
sheet_answer table file out = answer_with (sheet_of table file) out

-- Its output: the sheet, and then the bytes that were there; a refusal leaves every byte
unfoldable pub sheet_output : Table → List ℕ → List ℕ → List ℕ
sheet_output table file out = output_with (sheet_of table file) out
