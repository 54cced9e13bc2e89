-- A word is listed exactly when it is a member, and a non-empty p is open exactly when some p ++ a ∷ r is one, for any
-- family whose members have at most n atoms, all from 1 to n. From the laws of `words`, `keep` and `any`.
use Prim.Native.Nat.{ℕ, ◌≤◌, ◌<◌}
use mathlib.Core.Path.{◌≡◌, refl}
use mathlib.Core.Bool.{true}
use mathlib.Core.List.{List, [], ◌∷◌, ◌++◌, append_assoc, Memᴰ}
use mathlib.Core.Logic.{◌↔◌}
use lib.ListN.{length, get_or}
use borrow.Author.Tests.{eq-eqb}
use Rattle.enumeration.specs.Words.{begins, words, keep, Family, members, is_open}
use Rattle.enumeration.proofs.Basics.{any-mem, mem-any, keep-mem, mem-keep}
use Rattle.enumeration.proofs.Order.{range_at, words-complete, begins-rest}

-- a word begins itself with an atom or more added
pub begins-append : (v : List ℕ) (a : ℕ) (r : List ℕ) → begins v (v ++ a ∷ r) ≡ true
unfolding begins
begins-append [] a r = refl
begins-append (x ∷ v) a r = rw (eq-eqb x x refl) (begins-append v a r)

-- members have at most n atoms, all from 1 to n
abbrev pub Bounded : Family → Type 0
Bounded F =
    (w : List ℕ) → F.member w ≡ true →
    (length w ≤ F.atoms) × ((i : ℕ) → i < length w → (1 ≤ get_or w i 0) × (get_or w i 0 ≤ F.atoms))

module _ (F : Family) (bounded : Bounded F) where
  open F use {atoms as n, member}

  pub in_list : (w : List ℕ) → (member w ≡ true) ↔ Memᴰ w (members F)
  unfolding members
  in_list w = (listed, λ m. (keep-mem member (words n n) m).1)
    where
      listed : member w ≡ true → Memᴰ w (keep member (words n n))
      listed e =
          let (short, range) = bounded w e in
          mem-keep member (words-complete n n w (range_at n w range) short) e

  pub open-has :
      (x : ℕ) (p : List ℕ) → is_open F (x ∷ p) ≡ true → (a : ℕ) × (r : List ℕ) × (member (x ∷ p ++ a ∷ r) ≡ true)
  unfolding is_open
  open-has x p e =
      let (w, listed, begun) = any-mem (begins (x ∷ p)) (members F) e in
      let (a, r, shape) = begins-rest (x ∷ p) w begun in
      (a, r, rw shape at ((in_list w).1 listed))

  pub open_of : (x : ℕ) (p : List ℕ) (a : ℕ) (r : List ℕ) → member (x ∷ p ++ a ∷ r) ≡ true → is_open F (x ∷ p) ≡ true
  unfolding is_open
  open_of x p a r e = mem-any (begins (x ∷ p)) ((in_list (x ∷ p ++ a ∷ r)).0 e) (begins-append (x ∷ p) a r)

  pub open-iff :
      (x : ℕ) (p : List ℕ) → (is_open F (x ∷ p) ≡ true) ↔ ((a : ℕ) × (r : List ℕ) × (member (x ∷ p ++ a ∷ r) ≡ true))
  open-iff x p = (open-has x p, λ (a, r, e). open_of x p a r e)

  -- a beginning of an open one is open
  pub open-shorter : (x : ℕ) (p : List ℕ) (v : ℕ) → is_open F (x ∷ p ++ v ∷ []) ≡ true → is_open F (x ∷ p) ≡ true
  open-shorter x p v e =
      let (a, r, f) = open-has x (p ++ v ∷ []) e in
      open_of x p v (a ∷ r) (rw append_assoc at f)
