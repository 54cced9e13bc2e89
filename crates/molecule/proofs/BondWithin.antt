-- Ascending lists of bonds: an earlier bond comes before a later one; a list inside another is no longer than it, and
-- the same where it is as long. By induction on the list, for two on the outer one: its head comes before its tail.
use Prim.Native.Nat.{ℕ, zero, suc, ◌≤◌, ◌<◌}
use native.Mathlib.Omega.{arith}
use mathlib.Core.Path.{◌≡◌, refl, ap, ap₂, sym}
use mathlib.Core.Bool.{true, false, ◌&&◌}
use mathlib.Core.List.Memᴰ
use mathlib.Core.List.{List, [], ◌∷◌, Memᴰ}
use mathlib.Core.Logic.{◌⊎◌, inl, inr}
use lib.ListN.{length, get_or}
use lib.Dec.{ltb, eqb}
use borrow.Author.Tests.{ltb-true, eqb-true}
use Rattle.graph.proofs.Below.{either, and_parts}
use Rattle.molecule.specs.BondList.{Bond, comes_before, ascending}
use Rattle.molecule.proofs.BondOrder.{Before}

-- ---- order

before-facts : (x y : Bond) → comes_before x y ≡ true → Before x y
unfolding comes_before
before-facts x y e = go (either (ltb x.0 y.0))
  where
    go : (ltb x.0 y.0 ≡ true) ⊎ (ltb x.0 y.0 ≡ false) → Before x y
    go (inl less) = inl (ltb-true x.0 y.0 less)
    go (inr more) =
        let (same, less) = and_parts (eqb x.0 y.0) (ltb x.1 y.1) (rw more at e) in
        inr (eqb-true x.0 y.0 same, ltb-true x.1 y.1 less)

before-both : (x y z : Bond) → Before x y → Before y z → Before x z
before-both x y z (inl less) (inl more) = inl (omega arith)
before-both x y z (inl less) (inr (same, more)) = inl (omega arith)
before-both x y z (inr (same, less)) (inl more) = inl (omega arith)
before-both x y z (inr (same, less)) (inr (also, more)) = inr (omega arith, omega arith)

pub before-differs : (x y : Bond) → Before x y → x ≡ y → ⊥
before-differs x y (inl less) e = let same = ap (λ (z : Bond). z.0) e in omega arith
before-differs x y (inr (left, less)) e = let same = ap (λ (z : Bond). z.1) e in omega arith

-- the parts of an ascending list
ascend-parts :
    (x y : Bond) (ys : List Bond) → ascending x (y ∷ ys) ≡ true →
    (y.0 < y.1) × Before x y × (ascending y ys ≡ true)
unfolding ascending
ascend-parts x y ys a =
    let (here, rest) = and_parts (ltb y.0 y.1 && comes_before x y) (ascending y ys) a in
    let (low, after) = and_parts (ltb y.0 y.1) (comes_before x y) here in
    (ltb-true y.0 y.1 low, before-facts x y after, rest)

-- a bond of it has its lower atom first and comes after x
pub ascend-at :
    (x : Bond) (xs : List Bond) → ascending x xs ≡ true → (z : Bond) → Memᴰ z xs → (z.0 < z.1) × Before x z
ascend-at x [] a z m = elim m [ ]
ascend-at x (y ∷ ys) a z m = go (ascend-parts x y ys a) (Memᴰ.cases_cons m) (ascend-at y ys)
  where
    go :
        (y.0 < y.1) × Before x y × (ascending y ys ≡ true) → (z ≡ y) ⊎ Memᴰ z ys →
        (ascending y ys ≡ true → (w : Bond) → Memᴰ w ys → (w.0 < w.1) × Before y w) →
        (z.0 < z.1) × Before x z
    go (low, after, rest) (inl e) more = rw e (low, after)
    go (low, after, rest) (inr m) more =
        let (low', after') = more rest z m in
        (low', before-both x y z after after')

-- bond k of a list is one of it
pub mem-at : (xs : List Bond) (k : ℕ) → k < length xs → Memᴰ (get_or xs k (0, 0)) xs
mem-at [] k h = absurd (omega arith)
mem-at (x ∷ xs) zero h = Memᴰ.head refl
mem-at (x ∷ xs) (suc k) h = Memᴰ.tail (mem-at xs k (omega arith))

-- An earlier bond of an ascending list comes before a later one
pub ascend-order :
    (x : Bond) (xs : List Bond) → ascending x xs ≡ true → (j k : ℕ) → j < k → k < length xs →
    Before (get_or xs j (0, 0)) (get_or xs k (0, 0))
ascend-order x [] a j k h l = absurd (omega arith)
ascend-order x (y ∷ ys) a j zero h l = absurd (omega arith)
ascend-order x (y ∷ ys) a zero (suc k) h l =
    (ascend-at y ys (ascend-parts x y ys a).2 (get_or ys k (0, 0)) (mem-at ys k (omega arith))).1
ascend-order x (y ∷ ys) a (suc j) (suc k) h l =
    ascend-order y ys (ascend-parts x y ys a).2 j k (omega arith) (omega arith)

-- ---- one list inside the other

-- the first list is no longer than the second, and the same where it is as long
pub record Within (xs ys : List Bond) : Type 0 where
  pub few : length xs ≤ length ys
  pub same : length ys ≤ length xs → xs ≡ ys

pub ascend-within :
    (x y : Bond) (xs ys : List Bond) → ascending x xs ≡ true → ascending y ys ≡ true →
    ((z : Bond) → Memᴰ z xs → Memᴰ z ys) → Within xs ys
ascend-within x y [] [] ax ay f = record { few = omega arith; same = λ h. refl }
ascend-within x y [] (b ∷ ys) ax ay f = record { few = omega arith; same = λ h. absurd (omega arith) }
ascend-within x y (a ∷ xs) [] ax ay f = absurd (Memᴰ.not-nil (f a (Memᴰ.head refl)))
ascend-within x y (a ∷ xs) (b ∷ ys) ax ay f =
    let left = (ascend-parts x a xs ax).2 in
    let right = (ascend-parts y b ys ay).2 in
    go left right (Memᴰ.cases_cons (f a (Memᴰ.head refl))) (ascend-within a b xs ys left right)
    (ascend-within x b (a ∷ xs) ys ax right)
  where
    -- after b, in the tail
    later : (z : Bond) → Memᴰ z (a ∷ xs) → Before b z → Memᴰ z ys
    later z m after = elim (Memᴰ.cases_cons (f z m)) [
      | inl e ↦ absurd (before-differs b z after (sym e))
      | inr n ↦ n
    ]

    go :
        ascending a xs ≡ true → ascending b ys ≡ true → (a ≡ b) ⊎ Memᴰ a ys →
        (((z : Bond) → Memᴰ z xs → Memᴰ z ys) → Within xs ys) →
        (((z : Bond) → Memᴰ z (a ∷ xs) → Memᴰ z ys) → Within (a ∷ xs) ys) → Within (a ∷ xs) (b ∷ ys)
    go left right (inl e) tails skip =
        let rest = tails (λ z m. later z (Memᴰ.tail m) (rw e at (ascend-at a xs left z m).1)) in
        record { few = omega (arith, rest.few); same = λ h. ap₂ ◌∷◌ e (rest.same (omega arith)) }
    go left right (inr m) tails skip =
        let after = (ascend-at b ys right a m).1 in
        let rest = skip (λ z n. later z n (elim (Memᴰ.cases_cons n) [
          | inl e ↦ rw e after
          | inr t ↦ before-both b a z after (ascend-at a xs left z t).1
        ])) in
        record { few = omega (arith, rest.few); same = λ h. absurd (omega (arith, rest.few)) }
