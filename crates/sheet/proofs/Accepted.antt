-- An accepted sheet: every rule is kept, the record satisfies rule 9, and its atoms, bonds and pairs are the sheet's.
-- From the answer back through the tests, and from the table of its bonds.
use Rattle.std.specs.Prelude.{Ok}
use Prim.Native.Nat.{ℕ, suc, ◌*◌, ◌≤◌}
use mathlib.Core.Path.{◌≡◌, refl, sym, ◌∙◌}
use mathlib.Core.Bool.{true}
use mathlib.Core.List.{List}
use mathlib.Core.Logic.{◌↔◌}
use lib.ListN.{length}
use borrow.Author.Tests.{leb-true, eqb-true}
use Rattle.molecule.specs.declared.Molecule.{Molecule}
use Rattle.molecule.specs.Record.{bonded, well_formed}
use Rattle.bonds.specs.Reading.{read_bonds}
use Rattle.bonds.proofs.Tables.{Joins}
use Rattle.bonds.proofs.Record.{kept_on, record-bonds, BondsTaken, bonds-taken, taken-kept, taken-is, taken-well-formed}
use Rattle.sheet.specs.Read.{length_kept, lines_kept, atoms_of, bonds_of, bond_of}
use Rattle.sheet.specs.Read.{few_atoms, few_bonds, size_kept, read_sheet}

-- the rules that an accepted sheet keeps
pub record Rules (s : List ℕ) : Type 0 where
  pub length-kept : length_kept s ≡ true
  pub lines-kept : lines_kept s ≡ true
  pub few : atoms_of s ≤ 128
  pub light : bonds_of s ≤ 1024
  pub size : length s ≡ 9 * suc (bonds_of s)
  pub taken : BondsTaken (atoms_of s) (bond_of s) (bonds_of s)
  pub reads : read_sheet s ≡ read_bonds (atoms_of s) (bond_of s) (bonds_of s)

pub accepted-rules : (s : List ℕ) (mol : Molecule) → read_sheet s ≡ Ok mol → Rules s
unfolding read_sheet
accepted-rules s mol e =
    let r1 = kept_on (length_kept s) _ _ e in
    let r2 = kept_on (lines_kept s) _ _ r1.1 in
    let r3 = kept_on (few_atoms (atoms_of s)) _ _ r2.1 in
    let r4 = kept_on (few_bonds (bonds_of s)) _ _ r3.1 in
    let r5 = kept_on (size_kept (length s) (bonds_of s)) _ _ r4.1 in
    record {
      length-kept = r1.0;
      lines-kept = r2.0;
      few = leb-true (atoms_of s) 128 r3.0;
      light = leb-true (bonds_of s) 1024 r4.0;
      size = eqb-true (length s) (9 * suc (bonds_of s)) r5.0;
      taken = bonds-taken (atoms_of s) (bond_of s) (bonds_of s) r5.1;
      reads = rw (r1.0, r2.0, r3.0, r4.0, r5.0);
    }

-- An accepted sheet's record satisfies rule 9
pub accepted-well-formed : (s : List ℕ) (mol : Molecule) → read_sheet s ≡ Ok mol → well_formed mol ≡ true
accepted-well-formed s mol e =
    let rules = accepted-rules s mol e in
    taken-well-formed rules.few rules.taken (sym rules.reads ∙ e) rules.light

-- Its atoms, bonds and pairs are the sheet's
pub record SameAs (s : List ℕ) (mol : Molecule) : Type 0 where
  pub atoms : mol.atoms ≡ atoms_of s
  pub bonds : mol.bonds ≡ bonds_of s
  pub pairs : (a b : ℕ) → (bonded mol.atoms mol.rows a b ≡ true) ↔ Joins (bond_of s) (bonds_of s) a b

pub accepted-same : (s : List ℕ) (mol : Molecule) → read_sheet s ≡ Ok mol → SameAs s mol
accepted-same s mol e =
    let rules = accepted-rules s mol e in
    let pairs = record-bonds (atoms_of s) (bond_of s) (bonds_of s) (taken-kept rules.few rules.taken) in
    rw (taken-is rules.few rules.taken (sym rules.reads ∙ e)) (record { atoms = refl; bonds = refl; pairs = pairs })

-- ---- a sheet that an entry has read

-- it was accepted, as a molecule
pub record SheetTaken (sheet : List ℕ) (mol : Molecule) : Type 0 where
  pub is_read : Ok mol ≡ read_sheet sheet

-- that keeps rule 9
pub read-formed : {sheet : List ℕ} {mol : Molecule} → SheetTaken sheet mol → well_formed mol ≡ true
read-formed {sheet} {mol} s = accepted-well-formed sheet mol (sym s.is_read)
