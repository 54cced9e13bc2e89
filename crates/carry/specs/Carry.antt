-- Carrying a mark from one form to the other (document 02, F-6): what the entries return and leave in their output.
use Rattle.std.specs.Prelude.{ℕ, List, Ok, Result}
use Rattle.refusal.specs.declared.Refusal.{Refusal}
use Rattle.refusal.specs.Answers.{◌>>=◌}
use Rattle.molecule.specs.declared.Molecule.{Molecule}
use Rattle.sheet.specs.Read.{read_sheet}
use Rattle.search.specs.declared.Form.{Form}
use Rattle.search.specs.Mark.{answer_with, output_with}
use Rattle.search.specs.Forms.{mark_in, restore_in}

-- On a record: the mark is restored in its form (rules 14 to 17; an accepted sheet keeps rule 9), and the mark to be
-- written is that of the same search in the other
abbrev pub carried_on : Form → Form → Molecule → List ℕ → Result (List ℕ) Refusal
carried_on from to mol mark = restore_in from mol mark >>= λ q. Ok (mark_in to mol q)

-- With a sheet: it is read first (rules 1 to 8)
abbrev pub carried : Form → Form → List ℕ → List ℕ → Result (List ℕ) Refusal
carried from to sheet mark = read_sheet sheet >>= λ mol. carried_on from to mol mark

-- It is written where it has room (rule 13); the number of bytes written
unfoldable pub carry_answer : Form → Form → List ℕ → List ℕ → List ℕ → Result ℕ Refusal
carry_answer from to sheet mark out = answer_with (carried from to sheet mark) out

-- Its output: the mark, and then the bytes that were there; a refusal leaves every byte
unfoldable pub carry_output : Form → Form → List ℕ → List ℕ → List ℕ → List ℕ
carry_output from to sheet mark out = output_with (carried from to sheet mark) out
