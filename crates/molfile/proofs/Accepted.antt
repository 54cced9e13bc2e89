-- An accepted molfile: its rules are kept, its record satisfies rule 9, and it is read as the sheet with its bonds.
-- From the answer back through the tests; then by the laws of bonds and of sheets.
use Rattle.std.specs.Prelude.{Err, Ok, Result}
use Prim.Native.Nat.{ℕ, zero, suc, ◌≤◌, ◌<◌}
use native.Mathlib.Omega.{arith}
use mathlib.Core.Path.{◌≡◌, refl, ap, sym, ◌∙◌}
use mathlib.Core.Bool.{Bool, true, false, cond}
use mathlib.Core.List.{List}
use lib.ListN.{length}
use borrow.Author.Tests.{leb-true}
use Rattle.refusal.specs.declared.Refusal.TheVariants as refusal
use Rattle.molecule.specs.Record.{well_formed}
use Rattle.bonds.specs.Bonds.{Bond}
use Rattle.bonds.specs.Reading.{read_bonds}
use Rattle.bonds.proofs.Record.{kept_on, BondsTaken, bonds-taken, taken-well-formed}
use Rattle.bonds.proofs.Same.{bonds-same}
use Rattle.sheet.specs.Read.{few_atoms, few_bonds, read_sheet}
use Rattle.sheet.specs.Text.{Fillings, sheet_text, bond_at}
use Rattle.sheet.proofs.Complete.{every-molecule-has-a-sheet}
use Rattle.molfile.specs.Lines.{lines_in}
use Rattle.molfile.specs.Elements.{Table}
use Rattle.molfile.specs.Molfile.{atoms_in, bonds_in, bond_in, form_kept, symbols_kept, neighbours_kept, within_limits}
use Rattle.molfile.specs.Molfile.{read_atoms, limits_of, read_lines, read_molfile, first_bonds, bonds_listed}
use Rattle.refusal.specs.declared.Refusal.{Refusal}
use Rattle.molecule.specs.declared.Molecule.{Molecule}

-- rule 20 is kept where what it looks at is accepted
limited :
    (limit : ℕ → ℕ) (n : ℕ) (read : Result Molecule Refusal) {mol : Molecule} → within_limits limit n read ≡ Ok mol →
    (read ≡ Ok mol) × (neighbours_kept limit n mol.rows ≡ true)
limited limit n (Ok other) {mol} e = go (neighbours_kept limit n other.rows) refl e
  where
    go :
        (t : Bool) → neighbours_kept limit n other.rows ≡ t →
        cond t (Ok other) (Err refusal.TooManyNeighbours) ≡ Ok mol →
        (◌≡◌ {A = Result Molecule Refusal} (Ok other) (Ok mol)) × (neighbours_kept limit n mol.rows ≡ true)
    go true kept is = let same : other ≡ mol = cc in (is, rw same at kept)
    go false kept is = cc
limited limit n (Err r) e = cc

-- the rules that an accepted file keeps
pub record Rules (table : Table) (lines : List (List ℕ)) (mol : Molecule) : Type 0 where
  pub form : form_kept lines ≡ true
  pub few : atoms_in lines ≤ 128
  pub light : bonds_in lines ≤ 1024
  pub symbols : symbols_kept (limits_of table lines) (atoms_in lines) ≡ true
  pub taken : BondsTaken (atoms_in lines) (bond_in lines) (bonds_in lines)
  pub limits : neighbours_kept (limits_of table lines) (atoms_in lines) mol.rows ≡ true
  pub reads : read_lines table lines ≡ read_bonds (atoms_in lines) (bond_in lines) (bonds_in lines)
  pub is : read_bonds (atoms_in lines) (bond_in lines) (bonds_in lines) ≡ Ok mol

pub accepted-rules :
    (table : Table) (lines : List (List ℕ)) (mol : Molecule) → read_lines table lines ≡ Ok mol → Rules table lines mol
unfolding read_lines read_atoms
accepted-rules table lines mol e =
    let n = atoms_in lines in
    let m = bonds_in lines in
    let bonds = read_bonds n (bond_in lines) m in
    let r18 = kept_on (form_kept lines) _ _ e in
    let r3 = kept_on (few_atoms n) _ _ r18.1 in
    let r4 = kept_on (few_bonds m) _ _ r3.1 in
    let r19 = kept_on (symbols_kept (limits_of table lines) n) _ _ r4.1 in
    let (accepted, within) = limited (limits_of table lines) n bonds r19.1 in
    record {
      form = r18.0;
      few = leb-true n 128 r3.0;
      light = leb-true m 1024 r4.0;
      symbols = r19.0;
      taken = bonds-taken n (bond_in lines) m accepted;
      limits = within;
      reads = e ∙ sym accepted;
      is = accepted;
    }

-- the list of the first bonds
first-length : (bond : ℕ → Bond) (m : ℕ) → length (first_bonds bond m) ≡ m
unfolding first_bonds
first-length bond zero = refl
first-length bond (suc m) = ap suc (first-length (λ k. bond (suc k)) m)

first-at : (bond : ℕ → Bond) (m k : ℕ) → k < m → bond_at (first_bonds bond m) k ≡ bond k
unfolding first_bonds
first-at bond zero k h = absurd (omega arith)
first-at bond (suc m) zero h = refl
first-at bond (suc m) (suc k) h = first-at (λ j. bond (suc j)) m k (omega arith)

module _ (table : Table) (file : List ℕ) (mol : Molecule) (accepted : read_molfile table file ≡ Ok mol) where
  rules : Rules table (lines_in file) mol
  rules = accepted-rules table (lines_in file) mol accepted

  -- Its record satisfies rule 9
  pub accepted-well-formed : well_formed mol ≡ true
  accepted-well-formed = taken-well-formed rules.few rules.taken rules.is rules.light

  -- It is read as the sheet with the same n and bonds, whatever fills the sheet's fields
  pub accepted-as-sheet :
      (zeros : Fillings) →
      read_molfile table file ≡ read_sheet (sheet_text zeros (atoms_in (lines_in file)) (bonds_listed (lines_in file)))
  accepted-as-sheet zeros =
      let lines = lines_in file in
      let n = atoms_in lines in
      let m = bonds_in lines in
      let listed = bonds_listed lines in
      let size = first-length (bond_in lines) m in
      let same = bonds-same n (bond_at listed) (bond_in lines) m (first-at (bond_in lines) m) in
      let again = bonds-taken n (bond_at listed) m (same ∙ rules.is) in
      let light : length listed ≤ 1024 = rw size rules.light in
      let sheet =
      every-molecule-has-a-sheet zeros n listed rules.few light (rw size again.atoms-kept)
      (rw size again.none-to-itself) (rw size again.none-twice) in
      rules.reads ∙ sym same ∙ again.reads ∙ sym (sheet ∙ rw size)
