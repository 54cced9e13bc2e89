-- A fact of every element of a list: how it is joined, split, changed, and read at a place.
-- The structural reading of "for every place" that gluing lists needs, by recursion on the list.
use Prim.Native.Nat.{ℕ, zero, suc, ◌<◌}
use mathlib.Core.List.{List, [], ◌∷◌, ◌++◌}
use native.Mathlib.Omega.{arith}
use native.Mathlib.Nat.{not-suc-le-zero, le_of_suc-le-suc}
use lib.ListN.{length, get_or}

infixr 67 ◌◁◌
-- every element has P
pub data All (P : ℕ → Type 0) : List ℕ → Type 0 where
  none : All P []
  ◌◁◌ : {x : ℕ} {xs : List ℕ} → P x → All P xs → All P (x ∷ xs)

-- ---- one list

pub all_head : {P : ℕ → Type 0} {x : ℕ} {xs : List ℕ} → All P (x ∷ xs) → P x
all_head (p ◁ a) = p

pub all_tail : {P : ℕ → Type 0} {x : ℕ} {xs : List ℕ} → All P (x ∷ xs) → All P xs
all_tail (p ◁ a) = a

pub all_append : {P : ℕ → Type 0} {xs ys : List ℕ} → All P xs → All P ys → All P (xs ++ ys)
all_append none b = b
all_append (p ◁ a) b = p ◁ all_append a b

pub all_left : {P : ℕ → Type 0} (xs ys : List ℕ) → All P (xs ++ ys) → All P xs
all_left [] ys a = none
all_left (x ∷ xs) ys a = all_head a ◁ all_left xs ys (all_tail a)

pub all_right : {P : ℕ → Type 0} (xs : List ℕ) {ys : List ℕ} → All P (xs ++ ys) → All P ys
all_right [] a = a
all_right (x ∷ xs) a = all_right xs (all_tail a)

pub all_map : {P Q : ℕ → Type 0} {xs : List ℕ} → ((x : ℕ) → P x → Q x) → All P xs → All Q xs
all_map f none = none
all_map f (◌◁◌ {x} p a) = f x p ◁ all_map f a

pub all-every : {P : ℕ → Type 0} (xs : List ℕ) → ((x : ℕ) → P x) → All P xs
all-every [] f = none
all-every (x ∷ xs) f = f x ◁ all-every xs f

-- ---- two facts, two lists

-- two facts of every element
pub all_both : {P Q : ℕ → Type 0} {xs : List ℕ} → All P xs → All Q xs → All (λ x. P x × Q x) xs
all_both none b = none
all_both (p ◁ a) b = (p, all_head b) ◁ all_both a (all_tail b)

-- for every x of one list and every y of another, either list first
pub all-swap :
    {R : ℕ → ℕ → Type 0} {xs : List ℕ} (ys : List ℕ) →
    All (λ x. All (λ y. R x y) ys) xs → All (λ y. All (λ x. R x y) xs) ys
all-swap [] a = none
all-swap (y ∷ ys) a = all_map (λ x p. all_head p) a ◁ all-swap ys (all_map (λ x p. all_tail p) a)

-- ---- by places

pub all-at : {P : ℕ → Type 0} {xs : List ℕ} → All P xs → (i : ℕ) → i < length xs → P (get_or xs i 0)
all-at none i h = absurd (not-suc-le-zero h)
all-at (p ◁ a) zero h = p
all-at (p ◁ a) (suc i) h = all-at a i (le_of_suc-le-suc h)

pub all_of : {P : ℕ → Type 0} (xs : List ℕ) → ((i : ℕ) → i < length xs → P (get_or xs i 0)) → All P xs
all_of [] f = none
all_of (x ∷ xs) f = f 0 (omega arith) ◁ all_of xs (λ i h. f (suc i) (omega arith))
