-- The judge's tests of two places, by what the code found there.
-- `joined` goes by its cases; a pair of atoms by whether they are equal and bonded.
use Prim.Native.Nat.{ℕ, suc, ◌-◌, ◌≤◌, ◌<◌}
use native.Mathlib.Omega.{arith}
use mathlib.Core.Path.{◌≡◌, refl, sym, ◌∙◌}
use mathlib.Core.Bool.{Bool, true, false, ◌&&◌, not, beq}
use mathlib.Core.List.{List, [], ◌∷◌}
use lib.ListN.{length, drop}
use Rattle.std.specs.List.{list_all, range_with_len}
use Rattle.std.proofs.lemmas.List.Folds.{list_all_at}
use Rattle.std.proofs.lemmas.List.FromFn.{length-range_with_len, get_or-range_with_len}
use Rattle.graph.specs.Every.{all_below}
use lib.Dec.{eqb, ltb}
use borrow.Author.Tests.{eq-eqb, ne_eqb}
use Rattle.graph.proofs.Below.{clash, true_of, and_both, same_test, all_below-at, all_below-of}
use Rattle.graph.proofs.Places.{range_at}
use Rattle.graph.specs.Chordless.{Adjacency, atom_at, induces, along_ring}
use Rattle.molecule.specs.Record.{cell, bonded}
use Rattle.molecule.proofs.Bonds.{bonded-cell}
use Rattle.judge.specs.Parts.{TwoPlaces, pair_fits, fits_before, lowest_first, above_first}

-- a and b are the atoms at two places i < j of the list
pub record PairRead (n : ℕ) (xs : List ℕ) (i j a b : ℕ) : Type 0 where
  pub places : TwoPlaces n xs i j
  pub left : a ≡ atom_at xs i
  pub right : b ≡ atom_at xs j

-- two numbers from 1 to n
pub record TwoAtoms (n a b : ℕ) : Type 0 where
  pub left_low : 1 ≤ a
  pub left_high : a ≤ n
  pub right_low : 1 ≤ b
  pub right_high : b ≤ n

module _ {n : ℕ} {xs : List ℕ} {i j a b : ℕ} (pair : PairRead n xs i j a b) where
  pub two-atoms : TwoAtoms n a b
  two-atoms =
      let range = pair.places.later.atoms.range in
      let left = range_at n xs range i (omega arith) in
      let right = range_at n xs range j pair.places.later.inside in
      record {
        left_low = omega arith;
        left_high = omega arith;
        right_low = omega arith;
        right_high = omega arith;
      }

  module _ (rows : List ℕ) (k : ℕ) where
    pub pair-equal : a ≡ b → not (eqb a b) ≡ pair_fits (bonded n rows) k xs j i
    unfolding pair_fits
    pair-equal e = rw (← pair.left, ← pair.right, eq-eqb a b e)

    bond-is : {linked : Bool} → linked ≡ cell rows (a - 1) (b - 1) → bonded n rows a b ≡ linked
    bond-is told =
        let both = two-atoms in
        bonded-cell n rows a b both.left_low both.left_high both.right_low both.right_high ∙ sym told

    -- they differ; the code found whether they are bonded, and whether the places are joined
    pub pair-differs :
        (a ≡ b → ⊥) → {linked joined : Bool} → linked ≡ cell rows (a - 1) (b - 1) → joined ≡ along_ring k i j →
        beq linked joined ≡ pair_fits (bonded n rows) k xs j i
    unfolding pair_fits
    pair-differs differ told along =
        rw (← pair.left, ← pair.right, ne_eqb a b differ, bond-is told, ← along)

-- ---- the tests over a whole list

-- every atom of a list passes, by its places
list-passes :
    (test : ℕ → Bool) (xs : List ℕ) → list_all test xs ≡ true → (i : ℕ) → i < length xs → test (atom_at xs i) ≡ true
list-passes test xs e i h =
    true_of (test (atom_at xs i)) (λ fails. clash (list_all test xs) e (list_all_at test xs i 0 h fails))

passes-list :
    (test : ℕ → Bool) (xs : List ℕ) → ((i : ℕ) → i < length xs → test (atom_at xs i) ≡ true) → list_all test xs ≡ true
passes-list test [] h = refl
passes-list test (x ∷ xs) h =
    and_both (test x) (list_all test xs) (h 0 (omega arith)) (passes-list test xs (λ i below. h (suc i) (omega arith)))

pub list-tests :
    (test : ℕ → Bool) (xs : List ℕ) → list_all test xs ≡ all_below (length xs) (λ i. test (atom_at xs i))
list-tests test xs =
    let at : ℕ → Bool = λ i. test (atom_at xs i) in
    same_test (list_all test xs) (all_below (length xs) at)
    (λ e. all_below-of (length xs) at (list-passes test xs e))
    (λ e. passes-list test xs (all_below-at (length xs) at e))

-- every number below k passes
pub range-tests : (test : ℕ → Bool) (k : ℕ) → list_all test (range_with_len 0 k) ≡ all_below k test
range-tests test k =
    let at : ℕ → Bool = λ i. test (atom_at (range_with_len 0 k) i) in
    list-tests test (range_with_len 0 k) ∙
    rw (length-range_with_len 0 k)
    (same_test (all_below k at) (all_below k test)
    (λ e. all_below-of k test (λ i h. rw (place i h) at (all_below-at k at e i h)))
    (λ e. all_below-of k at (λ i h. rw (place i h) (all_below-at k test e i h))))
  where
    place : (i : ℕ) → i < k → atom_at (range_with_len 0 k) i ≡ i
    place i h = get_or-range_with_len 0 k i 0 h ∙ (omega arith)

-- every atom after the first passes
pub above-tests :
    (xs : List ℕ) → 0 < length xs → list_all (λ a. ltb (atom_at xs 0) a) (drop 1 xs) ≡ lowest_first xs
unfolding lowest_first above_first
above-tests [] h = absurd (omega arith)
above-tests (x ∷ xs) h =
    let size : length (x ∷ xs) - 1 ≡ length xs = omega arith in
    rw size (list-tests (λ a. ltb x a) xs)

-- every place of a list fits the places before it
pub induces-is :
    (adj : Adjacency) (k : ℕ) (xs : List ℕ) →
    all_below (length xs) (fits_before adj k xs) ≡ induces adj (along_ring k) xs
unfolding induces fits_before pair_fits
induces-is adj k xs = refl

-- ---- the value of tests joined by `&&`, where the first decides and where the second does

module _ {value first : Bool} (second : Bool) where
  pub both_tests : first ≡ true → value ≡ second → value ≡ (first && second)
  both_tests passes told = rw passes told

  pub first_fails : first ≡ false → value ≡ first → value ≡ (first && second)
  first_fails fails told = rw (told, fails)
