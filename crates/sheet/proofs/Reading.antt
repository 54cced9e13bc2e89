-- The reader's answers from the numbers that the decoder stored.
-- They are the sheet's, so each answer is the definition's (Answers).
use Rattle.std.specs.Prelude.{Err}
use Prim.Native.Nat.{ℕ, suc, ◌+◌, ◌-◌, ◌*◌, ◌≤◌, ◌<◌}
use native.Mathlib.Numerals.{one-add}
use native.Mathlib.Omega.{arith}
use mathlib.Core.Path.{◌≡◌, ap, ap₂, sym, ◌∙◌}
use mathlib.Core.List.{List}
use lib.ListN.{length, take, drop, length-drop}
use lib.Seq.{get_or-drop}
use Rattle.refusal.specs.declared.Refusal.TheVariants as refusal
use Rattle.bonds.specs.Bonds.{Bond}
use Rattle.bonds.specs.Reading.{read_bonds}
use Rattle.sheet.specs.Read.{atoms_of, bonds_of, bond_of, read_sheet}
use Rattle.bonds.specs.Parts.{listed}
use Rattle.sheet.specs.Parts.{WholeLines, LinesRead}
use Rattle.bonds.proofs.Same.{bonds-same, listed-part}
use Rattle.sheet.proofs.Answers.{first-line, Lined, sheet-atoms, sheet-bonds, sheet-size, sheet-read}

-- rules 1 and 2 are kept, and n and m are the first two of the values that were stored
module _
    {s : List ℕ} {start values : List Bond} {n m : ℕ} (whole : WholeLines s start) (read : LinesRead s values)
    (first : n ≡ (listed values 0).0) (second : m ≡ (listed values 0).1)
  where
    lined : Lined s
    lined = record { whole = whole.whole; lines = read.kept }

    atoms_are : n ≡ atoms_of s
    atoms_are =
        let some = first-line s whole.whole in
        first ∙ ap (λ x. x.0) (read.values_are.at 0 (omega arith) (omega arith))

    bonds-are : m ≡ bonds_of s
    bonds-are =
        let some = first-line s whole.whole in
        second ∙ ap (λ x. x.1) (read.values_are.at 0 (omega arith) (omega arith))

    pub stored-atoms : 128 < n → Err refusal.TooManyAtoms ≡ read_sheet s
    stored-atoms many = sym (sheet-atoms lined (rw atoms_are at many))

    module _ (few : n ≤ 128) where
      pub stored-bonds : 1024 < m → Err refusal.TooManyBonds ≡ read_sheet s
      stored-bonds many = sym (sheet-bonds lined (rw atoms_are at few) (rw bonds-are at many))

      module _ (light : m ≤ 1024) where
        pub stored-size : (length s ≡ 9 * (m + 1) → ⊥) → Err refusal.SheetSize ≡ read_sheet s
        stored-size other =
            sym (sheet-size lined (rw atoms_are at few) (rw bonds-are at light) (λ e. other (size_of e)))
          where
            size_of : length s ≡ 9 * suc (bonds_of s) → length s ≡ 9 * (m + 1)
            size_of e = let same = bonds-are in omega arith

        pub stored-read :
            length s ≡ 9 * (m + 1) → m + 1 ≤ length values →
            let bonds = take (m + 1 - 1) (drop 1 values) in
            read_bonds n (listed bonds) (length bonds) ≡ read_sheet s
        stored-read size room =
            let same = bonds-are in
            let size-told : length s ≡ 9 * suc (bonds_of s) = omega arith in
            let count : m + 1 - 1 ≡ m = omega arith in
            let after = drop 1 values in
            rw count
            (listed-part n after m (omega (arith, length-drop 1 values))
            ∙ bonds-same n (listed after) (bond_of s) m
            (λ k h.
            rw one-add at (get_or-drop 1 values k (0, 0)) ∙ read.values_are.at (suc k) (omega arith) (omega arith))
            ∙ ap₂ (λ x y. read_bonds x (bond_of s) y) atoms_are bonds-are
            ∙ sym (sheet-read lined (rw atoms_are at few) (rw bonds-are at light) size-told))
