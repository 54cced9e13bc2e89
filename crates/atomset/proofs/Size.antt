-- A set that loses an atom and gains none is smaller: the measure of a loop that takes atoms from a set.
-- Counted atom by atom.
use Prim.Native.Nat.{ℕ, zero, suc, ◌+◌, ◌≤◌, ◌<◌}
use native.Mathlib.Omega.{arith}
use native.Mathlib.Decide.{ℕ_discrete}
use mathlib.Core.Path.{◌≡◌, refl, sym, ◌∙◌}
use mathlib.Core.Bool.{Bool, true, false, not}
use mathlib.Core.List.{List}
use lib.Dec.{eqb}
use borrow.Author.Tests.{eq-eqb}
use Rattle.graph.proofs.Below.{apart, and_parts}
use Rattle.atomset.specs.Set.{has, LowestLeft}
use Rattle.atomset.proofs.Members.{has-range}

-- what an atom adds
abbrev pub unit : Bool → ℕ
unit true = 1
unit false = 0

-- the atoms from 1 to k
unfoldable pub size : (ℕ → Bool) → ℕ → ℕ
size test zero = 0
size test (suc k) = size test k + unit (test (suc k))

unit-le : (s t : Bool) → (t ≡ true → s ≡ true) → unit t ≤ unit s
unit-le true true h = omega arith
unit-le true false h = omega arith
unit-le false true h = absurd (apart (sym (h refl)))
unit-le false false h = omega arith

module _ (s t : ℕ → Bool) (within : (a : ℕ) → t a ≡ true → s a ≡ true) where
  size-le : (k : ℕ) → size t k ≤ size s k
  unfolding size
  size-le zero = omega arith
  size-le (suc k) =
      let rest = size-le k in
      let here = unit-le (s (suc k)) (t (suc k)) (within (suc k)) in
      omega arith

  size_less : (x k : ℕ) → s x ≡ true → t x ≡ false → 1 ≤ x → x ≤ k → size t k < size s k
  unfolding size
  size_less x zero was gone l h = absurd (omega arith)
  size_less x (suc k) was gone l h = split (ℕ_discrete x (suc k)) (λ b. size_less x k was gone l b)
    where
      split :
          Dec (x ≡ suc k) → (x ≤ k → size t k < size s k) →
          size t k + unit (t (suc k)) < size s k + unit (s (suc k))
      split (yes e) rest =
          let was-here : s (suc k) ≡ true = rw e at was in
          let gone-here : t (suc k) ≡ false = rw e at gone in
          let below = size-le k in
          rw (was-here, gone-here) (omega arith)
      split (no d) rest =
          let here = unit-le (s (suc k)) (t (suc k)) (within (suc k)) in
          let below : size t k < size s k = rest (omega arith) in
          omega arith

-- two sets of atoms from 1 to 128
pub smaller :
    {s t : ℕ → Bool} → ((a : ℕ) → s a ≡ true → (1 ≤ a) × (a ≤ 128)) → ((a : ℕ) → t a ≡ true → s a ≡ true) →
    {x : ℕ} → s x ≡ true → t x ≡ false → size t 128 < size s 128
smaller {s} {t} inside within {x} was gone =
    let (low, high) = inside x was in size_less s t within x 128 was gone low high

-- ---- a set without its lowest atom

module _ {left rest : List ℕ} (k : LowestLeft left rest) where
  pub rest-within : (a : ℕ) → has rest a ≡ true → has left a ≡ true
  rest-within a e =
      (and_parts (has left a) (not (eqb a k.taken)) (sym (k.others k.taken k.lowest a) ∙ e)).0

  pub rest-fewer : size (has rest) 128 < size (has left) 128
  rest-fewer =
      let v = k.taken in
      let gone : has rest v ≡ false = rw (k.others v k.lowest v, k.lowest.member, eq-eqb v v refl) in
      smaller (has-range left) rest-within k.lowest.member gone
