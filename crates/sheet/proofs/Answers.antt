-- The reader's answers, by the rules that lead to each.
-- The definitions go by `cond`, so each answer follows by rewriting the rules.
use Rattle.std.specs.Prelude.{Err}
use Prim.Native.Nat.{ℕ, suc, ◌*◌, ◌/◌, ◌%◌, ◌≤◌, ◌<◌}
use mathlib.Core.Path.{◌≡◌}
use mathlib.Core.Bool.{true, false}
use mathlib.Core.List.{List}
use lib.ListN.{length}
use lib.Dec.{leb, eqb}
use native.Mathlib.Omega.{arith}
use Rattle.graph.proofs.Below.{and_left}
use borrow.Author.Tests.{leb-true, le-leb, lt-leb, eq-eqb, ne_eqb}
use Rattle.refusal.specs.declared.Refusal.TheVariants as refusal
use Rattle.bonds.specs.Reading.{read_bonds}
use Rattle.sheet.specs.Read.{length_kept, lines_kept, atoms_of, bonds_of, bond_of}
use Rattle.sheet.specs.Read.{few_atoms, few_bonds, read_sheet}

-- rules 1 and 2
module _ (s : List ℕ) where
  pub sheet-ragged : length_kept s ≡ false → Err refusal.SheetLength ≡ read_sheet s
  unfolding read_sheet
  sheet-ragged ragged = rw ragged

  -- a sheet that keeps rule 1 has a line
  pub first-line : length_kept s ≡ true → 0 < length s / 9
  unfolding length_kept
  first-line whole =
      let long = leb-true 9 (length s) (and_left (leb 9 (length s)) (eqb (length s % 9) 0) whole) in omega arith

  pub sheet-bytes :
      length_kept s ≡ true → lines_kept s ≡ false → Err refusal.SheetBytes ≡ read_sheet s
  unfolding read_sheet
  sheet-bytes whole broken = rw (whole, broken)

-- they are kept
pub record Lined (s : List ℕ) : Type 0 where
  pub whole : length_kept s ≡ true
  pub lines : lines_kept s ≡ true

-- rules 3 to 5
module _ {s : List ℕ} (lined : Lined s) where
  pub sheet-atoms : 128 < atoms_of s → read_sheet s ≡ Err refusal.TooManyAtoms
  unfolding read_sheet
  sheet-atoms many = rw (lined.whole, lined.lines, lt-leb (atoms_of s) 128 many)

  module _ (few : atoms_of s ≤ 128) where
    atoms-kept : few_atoms (atoms_of s) ≡ true
    atoms-kept = le-leb (atoms_of s) 128 few

    pub sheet-bonds : 1024 < bonds_of s → read_sheet s ≡ Err refusal.TooManyBonds
    unfolding read_sheet
    sheet-bonds many = rw (lined.whole, lined.lines, atoms-kept, lt-leb (bonds_of s) 1024 many)

    module _ (light : bonds_of s ≤ 1024) where
      bonds-kept : few_bonds (bonds_of s) ≡ true
      bonds-kept = le-leb (bonds_of s) 1024 light

      pub sheet-size : (length s ≡ 9 * suc (bonds_of s) → ⊥) → read_sheet s ≡ Err refusal.SheetSize
      unfolding read_sheet
      sheet-size other =
          rw (lined.whole, lined.lines, atoms-kept, bonds-kept, ne_eqb (length s) (9 * suc (bonds_of s)) other)

      pub sheet-read : length s ≡ 9 * suc (bonds_of s) → read_sheet s ≡ read_bonds (atoms_of s) (bond_of s) (bonds_of s)
      unfolding read_sheet
      sheet-read size =
          rw (lined.whole, lined.lines, atoms-kept, bonds-kept, eq-eqb (length s) (9 * suc (bonds_of s)) size)
