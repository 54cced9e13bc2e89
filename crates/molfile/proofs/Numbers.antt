-- The numbers that a molfile is refused by: 3, 6 to 8, and 18 to 20; a file that keeps rule 18 names at most 999 bonds.
-- Each test of the definition is looked at.
use Rattle.std.specs.Prelude.{Err, None, Ok, Option, Result, Some}
use Prim.Native.Nat.{ℕ, ◌+◌, ◌≤◌}
use native.Mathlib.Omega.{arith}
use mathlib.Core.Path.{◌≡◌, refl, sym}
use mathlib.Core.Bool.{Bool, true, false, cond, true≢false}
use mathlib.Core.List.{List}
use mathlib.Core.Logic.{◌⊎◌, inl, inr}
use lib.ListN.{length}
use lib.Dec.{leb}
use borrow.Author.Tests.{leb-true, le-leb}
use Rattle.graph.proofs.Below.{either}
use Rattle.fields.specs.declared.Number.{Number}
use Rattle.fields.specs.Field.{value_of}
use Rattle.refusal.specs.declared.Refusal.{Refusal}
use Rattle.refusal.specs.declared.Refusal.TheVariants as refusal
use Rattle.refusal.specs.Number.{number_of}
use Rattle.refusal.proofs.Ranges.{by-test}
use Rattle.bonds.specs.Bonds.{Bond, atoms_kept, none_to_itself, none_twice}
use Rattle.bonds.specs.Reading.{read_bonds}
use Rattle.sheet.specs.Read.{few_atoms, few_bonds}
use Rattle.molfile.specs.Lines.{file_line}
use Rattle.molfile.specs.Elements.{Table}
use Rattle.molfile.specs.Molfile.{number_at, counts_line_kept, atoms_in, bonds_in, bond_in, form_kept, symbols_kept}
use Rattle.molfile.specs.Molfile.{neighbours_kept, within_limits, read_atoms, limits_of, read_lines}
use Rattle.molfile.proofs.Columns.{three-digits}
use Rattle.molecule.specs.declared.Molecule.{Molecule}

-- ---- at most 999 bonds

-- a number of three columns that a line reaches
three-most : (line : List ℕ) (at : ℕ) → at + 3 ≤ length line → value_of (number_at line at) ≤ 999
three-most line at room = go (number_at line at) refl
  where
    go : (x : Option Number) → number_at line at ≡ x → value_of x ≤ 999
    go (Some x) e = three-digits line at e room
    go None e = omega arith

pub few-named : (lines : List (List ℕ)) → form_kept lines ≡ true → bonds_in lines ≤ 999
unfolding form_kept counts_line_kept
few-named lines kept = reached (either (counts_line_kept line)) (either (leb 39 (length line)))
  where
    line : List ℕ
    line = file_line lines 3

    reached :
        (counts_line_kept line ≡ true) ⊎ (counts_line_kept line ≡ false) →
        (leb 39 (length line) ≡ true) ⊎ (leb 39 (length line) ≡ false) → value_of (number_at line 3) ≤ 999
    reached counts (inl long) = let reach = leb-true 39 (length line) long in three-most line 3 (omega arith)
    reached (inl counts) (inr short) = absurd (true≢false (sym (rw short at counts)))
    reached (inr broken) (inr short) = absurd (true≢false (sym (rw broken at kept)))

-- ---- the numbers

abbrev pub MolfileNumber : ℕ → Type 0
MolfileNumber k = (k ≡ 3) ⊎ (((6 ≤ k) × (k ≤ 8)) ⊎ ((18 ≤ k) × (k ≤ 20)))

abbrev Rule : Result Molecule Refusal → Type 0
Rule (Ok mol) = Unit {0}
Rule (Err r) = MolfileNumber (number_of r)

bonds-numbered : (n : ℕ) (bond : ℕ → Bond) (m : ℕ) → Rule (read_bonds n bond m)
unfolding read_bonds
bonds-numbered n bond m =
    by-test Rule (atoms_kept n bond m) _ _ (inr (inl (omega arith, omega arith)))
    (by-test Rule (none_to_itself bond m) _ _ (inr (inl (omega arith, omega arith)))
    (by-test Rule (none_twice bond m) _ _ (inr (inl (omega arith, omega arith))) tt))

module _ (table : Table) (lines : List (List ℕ)) where
  abbrev limit : ℕ → ℕ
  limit = limits_of table lines

  abbrev read : Result Molecule Refusal
  read = read_bonds (atoms_in lines) (bond_in lines) (bonds_in lines)

  limited-numbered : Rule (within_limits limit (atoms_in lines) read)
  limited-numbered = go read (bonds-numbered (atoms_in lines) (bond_in lines) (bonds_in lines))
    where
      go : (x : Result Molecule Refusal) → Rule x → Rule (within_limits limit (atoms_in lines) x)
      go (Ok mol) told =
          by-test Rule (neighbours_kept limit (atoms_in lines) mol.rows) _ _ (inr (inr (omega arith, omega arith))) tt
      go (Err r) told = told

  lines-numbered : Rule (read_lines table lines)
  unfolding read_lines read_atoms
  lines-numbered = go (either (form_kept lines))
    where
      go : (form_kept lines ≡ true) ⊎ (form_kept lines ≡ false) → Rule (read_lines table lines)
      go (inr broken) = rw broken (inr (inr (omega arith, omega arith)))
      go (inl kept) =
          let few : few_bonds (bonds_in lines) ≡ true =
          le-leb (bonds_in lines) 1024 (let named = few-named lines kept in omega arith) in
          rw (kept, few)
          (by-test Rule (few_atoms (atoms_in lines)) _ _ (inl refl)
          (by-test Rule (symbols_kept limit (atoms_in lines)) _ _ (inr (inr (omega arith, omega arith)))
          limited-numbered))

  pub molfile-numbers : (r : Refusal) → read_lines table lines ≡ Err r → MolfileNumber (number_of r)
  molfile-numbers r e = rw e at lines-numbered
