-- The laws of the sheet of a molfile: its numbers, what a refusal leaves, and that the sheet written is read as the
-- record of the file. By the reader's answer, and by the law that the sheet of a record is read as it.
use Rattle.std.specs.Prelude.{Err, Ok, Result}
use Rattle.refusal.specs.Answers.{◌>>=◌}
use Rattle.bonds.proofs.Record.{taken-is}
use Prim.Native.Nat.{ℕ, ◌+◌, ◌*◌, ◌≤◌}
use native.Mathlib.Omega.{arith}
use mathlib.Core.Path.{◌≡◌, refl, ap, sym, ◌∙◌}
use mathlib.Core.Bool.{true}
use mathlib.Core.List.{List, ◌++◌}
use mathlib.Core.Logic.{◌⊎◌, inl, inr}
use lib.ListN.{length, take, drop}
use lib.Seq.{take_at}
use Rattle.refusal.specs.declared.Refusal.{Refusal}
use Rattle.refusal.specs.Number.{number_of}
use Rattle.molecule.specs.declared.Molecule.{Molecule}
use Rattle.molecule.specs.Record.{well_formed}
use Rattle.sheet.specs.Read.{read_sheet}
use Rattle.sheet.specs.Text.{record_sheet}
use Rattle.sheet.proofs.EveryRecord.{record-sheet-reads}
use Rattle.search.specs.Mark.{write_answer, written_bytes, answer_with, output_with}
use Rattle.search.proofs.FormLaws.{write-fits, write-ways, written-refused, written_same}
use Rattle.molfile.specs.Lines.{lines_in}
use Rattle.molfile.specs.Elements.{Table}
use Rattle.molfile.specs.Molfile.{read_molfile}
use Rattle.molfile.proofs.Accepted.{accepted-rules, accepted-well-formed}
use Rattle.molfile.proofs.Numbers.{few-named, MolfileNumber, molfile-numbers}
use Rattle.molsheet.specs.Sheet.{sheet_answer, sheet_output}
use Rattle.molsheet.proofs.Text.{sheet-size}

module _ (table : Table) (file out : List ℕ) where
  abbrev read : Result Molecule Refusal
  read = read_molfile table file

  -- the answer of an accepted file
  accepted-answer : {mol : Molecule} → read ≡ Ok mol → sheet_answer table file out ≡ write_answer (record_sheet mol) out
  unfolding sheet_answer
  accepted-answer e = rw e

  -- the answer of a refused one
  refused-answer : {r : Refusal} → read ≡ Err r → sheet_answer table file out ≡ Err r
  unfolding sheet_answer
  refused-answer e = rw e

  -- the output of an accepted file
  accepted-output :
      {mol : Molecule} → read ≡ Ok mol →
      sheet_output table file out ≡ written_bytes (write_answer (record_sheet mol) out) (record_sheet mol) out
  unfolding sheet_output
  accepted-output e = rw e

  -- A refusal leaves every byte
  pub sheet-refused : (r : Refusal) → sheet_answer table file out ≡ Err r → sheet_output table file out ≡ out
  unfolding sheet_answer sheet_output
  sheet-refused r e = go read e
    where
      go : (x : Result Molecule Refusal) → answer_with (x >>= λ mol. Ok (record_sheet mol)) out ≡ Err r →
          output_with (x >>= λ mol. Ok (record_sheet mol)) out ≡ out
      go (Ok mol) is = rw is
      go (Err other) is = refl

  -- what a sheet that was written is: of the molecule that the file is read as
  pub record SheetFacts (k : ℕ) : Type 0 where
    pub mol : Molecule
    pub accepted : read ≡ Ok mol
    pub size : k ≡ 9 * (mol.bonds + 1)
    pub starts : take k (sheet_output table file out) ≡ record_sheet mol
    pub keeps : sheet_output table file out ≡ record_sheet mol ++ drop k out
    pub reads_same : read_sheet (take k (sheet_output table file out)) ≡ read

  module _ {mol : Molecule} (told : read ≡ Ok mol) where
    formed : well_formed mol ≡ true
    formed = accepted-well-formed table file mol told

    -- the facts of a sheet of k bytes
    facts : {k : ℕ} → sheet_answer table file out ≡ Ok k → length (record_sheet mol) ≡ k → SheetFacts k
    facts {k} e size =
        let left : sheet_output table file out ≡ record_sheet mol ++ drop k out =
        rw (sym (accepted-answer told) ∙ e) at (accepted-output told) in
        let start : take k (sheet_output table file out) ≡ record_sheet mol =
        ap (take k) left ∙ take_at (record_sheet mol) (drop k out) k size in
        record {
          mol = mol;
          accepted = told;
          size = sym size ∙ sheet-size mol formed;
          starts = start;
          keeps = left;
          reads_same = ap read_sheet start ∙ record-sheet-reads mol formed ∙ sym told;
        }

  -- It stands at the start of the output, the bytes past it are kept, and it is read as the record of the file
  pub sheet-written : (k : ℕ) → sheet_answer table file out ≡ Ok k → SheetFacts k
  sheet-written k e = go read refl
    where
      go : (x : Result Molecule Refusal) → read ≡ x → SheetFacts k
      go (Err r) told = absurd (written-refused (sym e ∙ refused-answer told))
      go (Ok mol) told = elim (write-ways (record_sheet mol) out) [
        | inl (room, is) ↦ facts told e (written_same (sym is ∙ sym (accepted-answer told) ∙ e))
        | inr (short, is) ↦ absurd (written-refused (sym e ∙ accepted-answer told ∙ is))
      ]

  -- It is refused by a rule of the file, or by rule 13
  pub sheet-numbers :
      (r : Refusal) → sheet_answer table file out ≡ Err r → MolfileNumber (number_of r) ⊎ (number_of r ≡ 13)
  sheet-numbers r e = go read refl
    where
      same : {a b : Refusal} → ◌≡◌ {A = Result ℕ Refusal} (Err a) (Err b) → a ≡ b
      same is = cc

      go : (x : Result Molecule Refusal) → read ≡ x → MolfileNumber (number_of r) ⊎ (number_of r ≡ 13)
      go (Err other) told =
          rw (← same (sym (refused-answer told) ∙ e)) (inl (molfile-numbers table (lines_in file) other told))
      go (Ok mol) told = elim (write-ways (record_sheet mol) out) [
        | inl (room, is) ↦ absurd (written-refused (sym is ∙ sym (accepted-answer told) ∙ e))
        | inr (short, is) ↦ inr (ap number_of (sym (same (sym is ∙ sym (accepted-answer told) ∙ e))))
      ]

  -- The sheet of an accepted file is written where the output has 9,000 bytes
  pub sheet-roomy :
      (mol : Molecule) → read ≡ Ok mol → 9000 ≤ length out → sheet_answer table file out ≡ Ok (9 * (mol.bonds + 1))
  sheet-roomy mol told room =
      let rules = accepted-rules table (lines_in file) mol told in
      let few = few-named (lines_in file) rules.form in
      let is : mol ≡ _ = taken-is rules.few rules.taken rules.is in
      let bonds = ap (λ (x : Molecule). x.bonds) is in
      let size = sheet-size mol (formed told) in
      accepted-answer told ∙ write-fits (record_sheet mol) out (omega arith) ∙ ap Ok size
