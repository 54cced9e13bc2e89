-- What listed bonds are read as, by the rules that lead to each answer.
-- The definition goes by `cond`, so each answer follows by rewriting the rules.
use Rattle.std.specs.Prelude.{Err, Ok, Result}
use Prim.Native.Nat.{ℕ}
use mathlib.Core.Path.{◌≡◌}
use mathlib.Core.Bool.{Bool, true, false, cond}
use Rattle.refusal.specs.declared.Refusal.{Refusal}
use Rattle.refusal.specs.declared.Refusal.TheVariants as refusal
use Rattle.molecule.specs.declared.Molecule.{Molecule}
use Rattle.bonds.specs.Bonds.{Bond, atoms_kept, none_to_itself, none_twice}
use Rattle.bonds.specs.Parts.{bonds_answer}
use Rattle.bonds.specs.Reading.{accepted_reading, read_bonds}

module _ (n : ℕ) (bond : ℕ → Bond) (m : ℕ) where
  pub bonds-out : atoms_kept n bond m ≡ false → read_bonds n bond m ≡ Err refusal.BondAtom
  unfolding read_bonds
  bonds-out e = rw e

  module _ (range : atoms_kept n bond m ≡ true) where
    pub bonds-self : none_to_itself bond m ≡ false → read_bonds n bond m ≡ Err refusal.SelfBond
    unfolding read_bonds
    bonds-self e = rw (range, e)

    module _ (apart : none_to_itself bond m ≡ true) where
      pub bonds-twice : none_twice bond m ≡ false → read_bonds n bond m ≡ Err refusal.RepeatedBond
      unfolding read_bonds
      bonds-twice e = rw (range, apart, e)

      pub bonds-read : none_twice bond m ≡ true → read_bonds n bond m ≡ accepted_reading n bond m
      unfolding read_bonds
      bonds-read e = rw (range, apart, e)

-- what rules 6 and 7 alone refuse, the reading does
pub bonds-refused :
    (n : ℕ) (bond : ℕ → Bond) (m : ℕ) {r : Refusal} → Err r ≡ bonds_answer n bond m → Err r ≡ read_bonds n bond m
unfolding read_bonds
bonds-refused n bond m e = go (atoms_kept n bond m) (none_to_itself bond m) e _
  where
    go :
        {r : Refusal} (atoms apart : Bool) →
        Err r ≡ cond atoms (cond apart (Ok (tt {0})) (Err refusal.SelfBond)) (Err refusal.BondAtom) →
        (x : Result Molecule Refusal) →
        Err r ≡ cond atoms (cond apart x (Err refusal.SelfBond)) (Err refusal.BondAtom)
    go true true e x = cc
    go true false e x = cc
    go false apart e x = cc
