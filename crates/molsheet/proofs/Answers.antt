-- The answers of the entry: a refusal by the rules of the molfile, or what writing the sheet answers.
-- The definition goes by the reader's answer.
use Rattle.std.specs.Prelude.{Err, Ok, Result}
use Prim.Native.Nat.{ℕ}
use mathlib.Core.Path.{◌≡◌, sym}
use mathlib.Core.Bool.{true}
use mathlib.Core.List.{List}
use Rattle.refusal.specs.declared.Refusal.{Refusal}
use Rattle.molecule.specs.declared.Molecule.{Molecule}
use Rattle.molecule.specs.Record.{well_formed}
use Rattle.sheet.specs.Text.{record_sheet}
use Rattle.search.specs.Mark.{write_answer, written_bytes}
use Rattle.molfile.specs.Elements.{Table}
use Rattle.molfile.specs.Molfile.{read_molfile}
use Rattle.molfile.proofs.Accepted.{accepted-well-formed}
use Rattle.molsheet.specs.Sheet.{sheet_answer, sheet_output}

-- what the entry answers and leaves
abbrev Leaves : Table → List ℕ → List ℕ → Result ℕ Refusal → List ℕ → Type 0
Leaves table file out saved last = (saved ≡ sheet_answer table file out) × (last ≡ sheet_output table file out)

module _ (table : Table) (file : List ℕ) where
  -- the file was refused
  pub file-refused : (out : List ℕ) {r : Refusal} → Err r ≡ read_molfile table file → Leaves table file out (Err r) out
  unfolding sheet_answer sheet_output
  file-refused out is = (rw (← is), rw (← is))

  module _ {mol : Molecule} (is : Ok mol ≡ read_molfile table file) where
    -- its record keeps rule 9
    pub file-formed : well_formed mol ≡ true
    file-formed = accepted-well-formed table file mol (sym is)

    -- its sheet was written, or had no room
    pub file-written :
        (out : List ℕ) {saved : Result ℕ Refusal} {last : List ℕ} →
        (saved ≡ write_answer (record_sheet mol) out) × (last ≡ written_bytes saved (record_sheet mol) out) →
        Leaves table file out saved last
    unfolding sheet_answer sheet_output
    file-written out (is-answer, is-output) = (rw (← is) is-answer, rw (← is, ← is-answer) is-output)
