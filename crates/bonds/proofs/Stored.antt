-- Rules 6 and 7 bond by bond.
-- The tests of one bond have names, so that the loops' laws can be cited.
use Prim.Native.Nat.{ℕ, ◌+◌, ◌≤◌, ◌<◌}
use native.Mathlib.Numerals.{add-one}
use native.Mathlib.Omega.{arith}
use mathlib.Core.Path.{◌≡◌, refl}
use mathlib.Core.Bool.{Bool, true, false, ◌&&◌, not, cond, and-true, and-false}
use Rattle.std.specs.Prelude.{◌≢◌, Ok, Err, Result, ⊤}
use lib.Dec.{eqb}
use borrow.Author.Tests.{eq-eqb, ne_eqb}
use Rattle.graph.specs.Every.{all_below}
use Rattle.graph.proofs.Loops.{all-fails, all_more}
use Rattle.molecule.specs.Record.{is_atom}
use Rattle.bonds.specs.Bonds.{Bond, atoms_kept, none_to_itself}
use Rattle.refusal.specs.declared.Refusal.{Refusal}
use Rattle.refusal.specs.declared.Refusal.TheVariants.{BondAtom, SelfBond}
use Rattle.bonds.specs.Parts.{bonds_answer}

unfoldable pub within : ℕ → (ℕ → Bond) → ℕ → Bool
within n bond k = is_atom n (bond k).0 && is_atom n (bond k).1

unfoldable pub differs : (ℕ → Bond) → ℕ → Bool
differs bond k = not (eqb (bond k).0 (bond k).1)

pub atoms-kept-is : (n : ℕ) (bond : ℕ → Bond) (m : ℕ) → atoms_kept n bond m ≡ all_below m (within n bond)
unfolding atoms_kept within
atoms-kept-is n bond m = refl

pub none-to-itself-is : (bond : ℕ → Bond) (m : ℕ) → none_to_itself bond m ≡ all_below m (differs bond)
unfolding none_to_itself differs
none-to-itself-is bond m = refl

-- rule 6 of one bond, by the answers on its two atoms
module _ (n : ℕ) (bond : ℕ → Bond) (k : ℕ) where
  pub within-both : true ≡ is_atom n (bond k).0 → true ≡ is_atom n (bond k).1 → within n bond k ≡ true
  unfolding within
  within-both l r = rw (← l, ← r)

  pub within-left : false ≡ is_atom n (bond k).0 → within n bond k ≡ false
  unfolding within
  within-left l = rw (← l)

  pub within-right : true ≡ is_atom n (bond k).0 → false ≡ is_atom n (bond k).1 → within n bond k ≡ false
  unfolding within
  within-right l r = rw (← l, ← r)

-- ---- the bonds passed

-- their atoms are from 1 to n, and `apart` tells whether none joins an atom to itself
pub record BondsPassed (n : ℕ) (bond : ℕ → Bond) (m k : ℕ) (apart : Bool) : Type 0 where
  pub most : k ≤ m
  pub atoms : all_below k (within n bond) ≡ true
  pub apart_is : apart ≡ all_below k (differs bond)

pub bonds-none : {n : ℕ} {bond : ℕ → Bond} {m : ℕ} → BondsPassed n bond m 0 true
bonds-none = record { most = omega arith; atoms = refl; apart_is = refl }

module _ {n : ℕ} {bond : ℕ → Bond} {m k : ℕ} {apart : Bool} (passed : BondsPassed n bond m k apart) where
  pub bonds-all : m ≤ k → cond apart (Ok _) (Err SelfBond) ≡ bonds_answer n bond m
  bonds-all last =
      let same : k ≡ m = omega (arith, passed.most) in
      rw (atoms-kept-is, none-to-itself-is, rw same at passed.atoms, rw same at passed.apart_is) refl

  module _ (more : k < m) where
    pub bonds-broken : within n bond k ≡ false → Err BondAtom ≡ bonds_answer n bond m
    bonds-broken broken = rw (atoms-kept-is, all-fails m (within n bond) k more broken)

    -- one more bond, by whether its atoms are the same
    module _ (inside : within n bond k ≡ true) where
      pub bonds-same : (bond k).0 ≡ (bond k).1 → BondsPassed n bond m (k + 1) false
      unfolding differs
      bonds-same e =
          record {
            most = omega arith;
            atoms = all_more k (within n bond) passed.atoms inside;
            apart_is = rw (add-one k, eq-eqb _ _ e, and-false);
          }

      pub bonds-differ : (bond k).0 ≢ (bond k).1 → BondsPassed n bond m (k + 1) apart
      unfolding differs
      bonds-differ e =
          record {
            most = omega arith;
            atoms = all_more k (within n bond) passed.atoms inside;
            apart_is = rw (add-one k, ne_eqb _ _ e, and-true) passed.apart_is;
          }
