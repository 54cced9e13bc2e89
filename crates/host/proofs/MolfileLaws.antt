-- The laws of the sheet of a molfile from C: its numbers, what a refusal leaves, and that the sheet written is read as
-- the record of the file. By the laws of `molsheet`.
use Rattle.std.specs.Prelude.{Err, Ok, Result}
use Prim.Native.Nat.{ℕ, ◌≤◌}
use native.Mathlib.Omega.{arith}
use mathlib.Core.Path.{◌≡◌, sym, ap, ◌∙◌}
use mathlib.Core.Logic.{◌⊎◌, inl, inr}
use mathlib.Core.List.{List}
use lib.ListN.{length}
use Rattle.refusal.specs.declared.Refusal.{Refusal}
use Rattle.molecule.specs.declared.Molecule.{Molecule}
use Rattle.molfile.specs.Elements.{built_in}
use Rattle.molfile.specs.Molfile.{read_molfile}
use Rattle.molfile.proofs.Numbers.{MolfileNumber}
use Rattle.molsheet.specs.Sheet.{sheet_answer}
use Rattle.molsheet.proofs.Laws.{sheet-refused, SheetFacts, sheet-written, sheet-numbers, sheet-roomy}
use Rattle.host.specs.Written.{WrittenOut, saved_number, saved_length}
use Rattle.host.specs.Molfile.{molfile_sheet}
use Rattle.host.proofs.Answers.{saved-ways}

module _ (file out : List ℕ) (before : ℕ) where
  abbrev pub call : WrittenOut
  call = molfile_sheet file out before

  -- 3, 6 to 8, 18 to 20, or 13
  abbrev pub SheetNumber : ℕ → Type 0
  SheetNumber k = MolfileNumber k ⊎ (k ≡ 13)

  refused-number : (r : Refusal) → sheet_answer built_in file out ≡ Err r → SheetNumber call.number
  refused-number r e = rw e (sheet-numbers built_in file out r e)

  -- It returns 0, or for a refusal one of these
  pub molfile-returns : (call.number ≡ 0) ⊎ SheetNumber call.number
  molfile-returns = elim (saved-ways (sheet_answer built_in file out)) [
    | inl (k, e) ↦ inl (ap saved_number e)
    | inr (r, e) ↦ inr (refused-number r e)
  ]

  not-zero : (k : ℕ) → SheetNumber k → k ≡ 0 → ⊥
  not-zero k (inl (inl h)) z = omega arith
  not-zero k (inl (inr (inl h))) z = omega arith
  not-zero k (inl (inr (inr h))) z = omega arith
  not-zero k (inr h) z = omega arith

  -- A refusal leaves every byte and the length
  pub molfile-refused-keeps : (call.number ≡ 0 → ⊥) → (call.bytes ≡ out) × (call.length ≡ before)
  molfile-refused-keeps other = elim (saved-ways (sheet_answer built_in file out)) [
    | inl (k, e) ↦ absurd (other (ap saved_number e))
    | inr (r, e) ↦ (sheet-refused built_in file out r e, ap (λ (x : Result ℕ Refusal). saved_length x before) e)
  ]

  -- 0 means that the sheet of the file is written, as many bytes as the length says, and is read as its record
  pub molfile-zero : call.number ≡ 0 → SheetFacts built_in file out call.length
  molfile-zero zero = elim (saved-ways (sheet_answer built_in file out)) [
    | inl (k, e) ↦
        sheet-written built_in file out _ (e ∙ ap Ok (sym (ap (λ (x : Result ℕ Refusal). saved_length x before) e)))
    | inr (r, e) ↦ absurd (not-zero call.number (refused-number r e) zero)
  ]

  -- The sheet of every accepted file is written where the output has 9,000 bytes
  pub molfile-accepted :
      (mol : Molecule) → read_molfile built_in file ≡ Ok mol → 9000 ≤ length out → call.number ≡ 0
  molfile-accepted mol read room = ap saved_number (sheet-roomy built_in file out mol read room)
