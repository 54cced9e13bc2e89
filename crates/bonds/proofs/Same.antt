-- Lists of bonds that agree read to the same record, with the same refusals.
-- Every rule looks at the first m bonds alone.
use Prim.Native.Nat.{ℕ, zero, suc, ◌≤◌, ◌<◌}
use native.Mathlib.Omega.{arith}
use mathlib.Core.Path.{◌≡◌, refl, ap₂, sym, ◌∙◌}
use mathlib.Core.Bool.{not}
use mathlib.Core.List.{List}
use lib.ListN.{length, take}
use lib.Seq.{get_or-take, length-take-le}
use Rattle.graph.proofs.Places.{all_same}
use Rattle.bonds.specs.Bonds.{Bond, atoms_kept, none_to_itself, same_pair, none_twice, with_bond, rows_of}
use Rattle.bonds.specs.Parts.{listed}
use Rattle.bonds.specs.Reading.{read_bonds}
use Rattle.bonds.proofs.Tables.{is_new}
use Rattle.bonds.proofs.Stored.{within, differs, atoms-kept-is, none-to-itself-is}

module _ {bond bond' : ℕ → Bond} {m : ℕ} (same : (k : ℕ) → k < m → bond k ≡ bond' k) where
  atoms-same : (n : ℕ) → atoms_kept n bond m ≡ atoms_kept n bond' m
  unfolding within
  atoms-same n =
      atoms-kept-is n bond m
      ∙ all_same m (within n bond) (within n bond') (λ k h. rw (same k h))
      ∙ sym (atoms-kept-is n bond' m)

  itself-same : none_to_itself bond m ≡ none_to_itself bond' m
  unfolding differs
  itself-same =
      none-to-itself-is bond m
      ∙ all_same m (differs bond) (differs bond') (λ k h. rw (same k h))
      ∙ sym (none-to-itself-is bond' m)

  twice_same : none_twice bond m ≡ none_twice bond' m
  unfolding none_twice
  twice_same = all_same m (is_new bond) (is_new bond') new-same
    where
      new-same : (k : ℕ) → k < m → is_new bond k ≡ is_new bond' k
      new-same k h =
          all_same k (λ j. not (same_pair (bond j) (bond k))) (λ j. not (same_pair (bond' j) (bond' k)))
          (λ j l. ap₂ (λ x y. not (same_pair x y)) (same j (omega arith)) (same k h))

rows_same : (bond bond' : ℕ → Bond) (m : ℕ) → ((k : ℕ) → k < m → bond k ≡ bond' k) → rows_of bond m ≡ rows_of bond' m
unfolding rows_of
rows_same bond bond' zero same = refl
rows_same bond bond' (suc m) same =
    ap₂ with_bond (rows_same bond bond' m (λ k h. same k (omega arith))) (same m (omega arith))

pub bonds-same :
    (n : ℕ) (bond bond' : ℕ → Bond) (m : ℕ) → ((k : ℕ) → k < m → bond k ≡ bond' k) →
    read_bonds n bond m ≡ read_bonds n bond' m
unfolding read_bonds
bonds-same n bond bond' m same =
    rw (atoms-same same n, itself-same same, twice_same same, rows_same bond bond' m same)

-- the first m of a list of bonds, as a list
pub listed-part :
    (n : ℕ) (bonds : List Bond) (m : ℕ) → m ≤ length bonds →
    read_bonds n (listed (take m bonds)) (length (take m bonds)) ≡ read_bonds n (listed bonds) m
listed-part n bonds m fits =
    rw (length-take-le m bonds fits)
    (bonds-same n (listed (take m bonds)) (listed bonds) m (λ k h. get_or-take m bonds k (0, 0) h))
