-- The numbers that a sheet is refused by: 1 to 8.
-- Each test of the definition is looked at.
use Rattle.std.specs.Prelude.{Err, Result}
use Prim.Native.Nat.{ℕ, ◌≤◌}
use native.Mathlib.Omega.{arith}
use mathlib.Core.Path.{◌≡◌}
use mathlib.Core.List.{List}
use lib.ListN.{length}
use lib.Dec.{leb, eqb}
use Rattle.refusal.specs.declared.Refusal.{Refusal}
use Rattle.refusal.specs.Number.{number_of}
use Rattle.refusal.proofs.Ranges.{Within, by-test, within-refused}
use Rattle.bonds.specs.Bonds.{atoms_kept, none_to_itself, none_twice}
use Rattle.bonds.specs.Reading.{read_bonds}
use Rattle.sheet.specs.Read.{length_kept, lines_kept, atoms_of, bonds_of, bond_of, read_sheet}
use Rattle.molecule.specs.declared.Molecule.{Molecule}

abbrev SheetRule : Result Molecule Refusal → Type 0
SheetRule x = Within 1 8 x

pub sheet-numbers : (s : List ℕ) (r : Refusal) → read_sheet s ≡ Err r → (1 ≤ number_of r) × (number_of r ≤ 8)
unfolding read_sheet read_bonds
sheet-numbers s r e =
    within-refused 1 8 _ r e
    (by-test SheetRule (length_kept s) _ _ (omega arith, omega arith)
    (by-test SheetRule (lines_kept s) _ _ (omega arith, omega arith)
    (by-test SheetRule (leb (atoms_of s) 128) _ _ (omega arith, omega arith)
    (by-test SheetRule (leb (bonds_of s) 1024) _ _ (omega arith, omega arith)
    (by-test SheetRule (eqb (length s) _) _ _ (omega arith, omega arith)
    (by-test SheetRule (atoms_kept (atoms_of s) (bond_of s) (bonds_of s)) _ _ (omega arith, omega arith)
    (by-test SheetRule (none_to_itself (bond_of s) (bonds_of s)) _ _ (omega arith, omega arith)
    (by-test SheetRule (none_twice (bond_of s) (bonds_of s)) _ _ (omega arith, omega arith) tt))))))))
