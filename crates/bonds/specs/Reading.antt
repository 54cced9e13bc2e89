-- What n atoms and m listed bonds are read as: rules 6, 7 and 8 (document 01), each tried over all before the next.
-- Every text of a molecule is read so, after the rules of its own layout.
use Rattle.std.specs.Prelude.{ℕ, cond, Err, Ok, Result}
use Rattle.refusal.specs.declared.Refusal.{Refusal}
use Rattle.refusal.specs.declared.Refusal.TheVariants as refusal
use Rattle.bonds.specs.Bonds.{Bond, atoms_kept, none_to_itself, none_twice, rows_of}
use Rattle.molecule.specs.declared.Molecule.{Molecule}

-- n atoms with the first m bonds
abbrev pub accepted_reading : ℕ → (ℕ → Bond) → ℕ → Result Molecule Refusal
accepted_reading n bond m =
    Ok (record { atoms = n; bonds = m; rows = rows_of bond m })

-- Rules 6, 7 and 8 on the bonds, each tried over all of them before the next
unfoldable pub read_bonds : ℕ → (ℕ → Bond) → ℕ → Result Molecule Refusal
read_bonds n bond m =
    cond (atoms_kept n bond m)
    (cond (none_to_itself bond m)
    (cond (none_twice bond m) (accepted_reading n bond m) (Err refusal.RepeatedBond))
    (Err refusal.SelfBond))
    (Err refusal.BondAtom)
