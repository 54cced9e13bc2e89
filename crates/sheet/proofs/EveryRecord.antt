-- Every record that rule 9 allows is read from some sheet: the one of its list of bonds.
-- The list keeps the rules of a sheet, and the record read from that sheet has the same list, so it is the same record.
use Rattle.std.specs.Prelude.{Ok}
use Prim.Native.Nat.{ℕ, ◌+◌, ◌-◌, ◌*◌, ◌≤◌, ◌<◌}
use native.Mathlib.Omega.{arith}
use mathlib.Core.Path.{◌≡◌, refl, sym, ◌∙◌}
use mathlib.Core.Bool.{true, false, ◌&&◌, not}
use mathlib.Core.List.{List, ◌∷◌}
use mathlib.Core.Logic.{inl, inr}
use lib.ListN.{length}
use lib.Dec.{eqb}
use borrow.Author.Tests.{eq-eqb, ne_eqb}
use Rattle.graph.proofs.Below.{false_of, and_left, and_both, not-of, all_below-of}
use Rattle.molecule.specs.declared.Molecule.{Molecule}
use Rattle.molecule.specs.Record.{cell, is_atom, bonded, well_formed}
use Rattle.molecule.specs.BondList.{bond_list}
use Rattle.molecule.specs.Parts.{each_bonded}
use Rattle.molecule.proofs.Bonds.{rule9}
use Rattle.molecule.proofs.BondOrder.{Before, same-pair, bonds-ascend}
use Rattle.molecule.proofs.BondWithin.{before-differs, mem-at, ascend-at, ascend-order}
use Rattle.molecule.proofs.BondCount.{bonds-count}
use Rattle.molecule.proofs.BondLaws.{all-bonded-of, listed-is-bonded, same-there, listed-record}
use Rattle.bonds.specs.Bonds.{Bond, atoms_kept, none_to_itself, same_pair, none_twice, rows_of}
use Rattle.bonds.specs.Reading.{accepted_reading, read_bonds}
use Rattle.sheet.specs.Read.{read_sheet}
use Rattle.sheet.specs.Text.{bond_at, sheet_text, blanks, record_sheet}
use Rattle.bonds.proofs.Answers.{bonds-read}
use Rattle.bonds.proofs.Stored.{within, differs, atoms-kept-is, none-to-itself-is}
use Rattle.bonds.proofs.Tables.{Joins, Kept, kept_of, is_new}
use Rattle.bonds.proofs.Record.{same-pair-cases, record-bonds, record-well-formed}
use Rattle.sheet.proofs.Complete.{lines-length, every-molecule-has-a-sheet}

-- two bonds with the lower atom first, one before the other, join different atoms
ordered-differ : (x y : Bond) → x.0 < x.1 → y.0 < y.1 → Before x y → same_pair x y ≡ false
ordered-differ x y low low' before =
    false_of (same_pair x y) (λ same. elim (same-pair-cases x y.0 y.1 same) [
      | inl (left, right) ↦ before-differs x y before (same-pair x y left right)
      | inr (left, right) ↦ omega arith
    ])

-- a bond of the list joins its own atoms
joins-own : (bond : ℕ → Bond) (m k : ℕ) → k < m → Joins bond m (bond k).0 (bond k).1
unfolding Joins same_pair
joins-own bond m k h =
    (k, h, rw (eq-eqb (bond k).0 (bond k).0 refl, eq-eqb (bond k).1 (bond k).1 refl))

module _ (mol : Molecule) (formed : well_formed mol ≡ true) where
  abbrev n : ℕ
  n = mol.atoms

  abbrev bonds : List Bond
  bonds = bond_list mol.rows

  abbrev m : ℕ
  m = length bonds

  abbrev bond : ℕ → Bond
  bond = bond_at bonds

  -- ---- the list keeps rules 6, 7 and 8

  low_first : (k : ℕ) → k < m → (bond k).0 < (bond k).1
  low_first k h = (ascend-at (0, 0) bonds (bonds-ascend mol.rows) (bond k) (mem-at bonds k h)).0

  atoms-kept : atoms_kept n bond m ≡ true
  unfolding within bonded
  atoms-kept = atoms-kept-is n bond m ∙ all_below-of m (within n bond) here
    where
      here : (k : ℕ) → k < m → within n bond k ≡ true
      here k h =
          and_left (is_atom n (bond k).0 && is_atom n (bond k).1) (cell mol.rows ((bond k).0 - 1) ((bond k).1 - 1))
          (listed-is-bonded mol formed (bond k) (mem-at bonds k h))

  none-to-itself : none_to_itself bond m ≡ true
  unfolding differs
  none-to-itself = none-to-itself-is bond m ∙ all_below-of m (differs bond) here
    where
      here : (k : ℕ) → k < m → differs bond k ≡ true
      here k h = let low = low_first k h in rw (ne_eqb (bond k).0 (bond k).1 (λ e. omega arith))

  none-twice : none_twice bond m ≡ true
  unfolding none_twice
  none-twice = all_below-of m (is_new bond) (λ k h. all_below-of k (λ j. not (same_pair (bond j) (bond k))) (other k h))
    where
      other : (k : ℕ) → k < m → (j : ℕ) → j < k → not (same_pair (bond j) (bond k)) ≡ true
      other k h j l =
          let before = ascend-order (0, 0) bonds (bonds-ascend mol.rows) j k l h in
          not-of (same_pair (bond j) (bond k))
          (ordered-differ (bond j) (bond k) (low_first j (omega arith)) (low_first k h) before)

  few : n ≤ 128
  few = (rule9 mol formed).atoms_high

  light : m ≤ 1024
  light = let rule = rule9 mol formed in omega (arith, bonds-count mol formed, rule.bonds_high)

  -- ---- the record of its sheet is the same

  abbrev read : Molecule
  read = record { atoms = n; bonds = m; rows = rows_of bond m }

  kept : Kept n bond m
  kept = kept_of few atoms-kept none-to-itself

  read-formed : well_formed read ≡ true
  read-formed = record-well-formed n bond m kept light none-twice

  same-listed : bonds ≡ bond_list read.rows
  same-listed =
      same-there read read-formed bonds (bonds-ascend mol.rows)
      (and_both (eqb m m) (each_bonded n read.rows bonds) (eq-eqb m m refl) all)
    where
      all : each_bonded n read.rows bonds ≡ true
      all =
          all-bonded-of n read.rows bonds
          (λ k h. (record-bonds n bond m kept (bond k).0 (bond k).1).1 (joins-own bond m k h))

  same-record : read ≡ mol
  same-record = listed-record read mol read-formed formed refl (sym same-listed)

  accepted : accepted_reading n bond m ≡ Ok mol
  accepted = rw same-record

  -- The list of the bonds of a record is read as that record, from any text that names n and them
  pub record-reads : read_bonds n bond m ≡ Ok mol
  record-reads = bonds-read n bond m atoms-kept none-to-itself none-twice ∙ accepted

  -- Its blank-filled sheet is read as the record
  pub record-sheet-reads : read_sheet (record_sheet mol) ≡ Ok mol
  unfolding record_sheet
  record-sheet-reads =
      every-molecule-has-a-sheet blanks n bonds few light atoms-kept none-to-itself none-twice ∙ accepted

  -- and is 9 × (m + 1) bytes long
  pub record-sheet-size : length (record_sheet mol) ≡ 9 * (mol.bonds + 1)
  unfolding record_sheet sheet_text
  record-sheet-size =
      let count = bonds-count mol formed in
      let size = lines-length blanks ((n, m) ∷ bonds) in
      size ∙ omega arith

-- Every record that rule 9 allows is read from a sheet
pub every-record-has-a-sheet :
    (mol : Molecule) → well_formed mol ≡ true →
    (s : List ℕ) × (read_sheet s ≡ Ok mol)
every-record-has-a-sheet mol formed = (record_sheet mol, record-sheet-reads mol formed)
