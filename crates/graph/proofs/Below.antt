-- `all_below` is true exactly when every index below the bound passes; where it is false, an index fails.
-- By induction on the bound; and the laws of `&&` and of `Bool.beq` that reading a test needs.
use Prim.Native.Nat.{ℕ, zero, suc, ◌<◌}
use mathlib.Core.Path.{◌≡◌, refl, sym, subst, ◌∙◌}
use mathlib.Core.Bool.{Bool, true, false, ◌&&◌, ◌||◌, not, beq}
use mathlib.Core.Logic.{◌⊎◌, inl, inr, ◌↔◌}
use native.Mathlib.Omega.{arith}
use native.Mathlib.Nat.{not-suc-le-zero}
use native.Mathlib.Decide.{ℕ_discrete}
use lib.Dec.{T}
use Rattle.graph.specs.Every.{all_below}

-- ---- tests

-- the two answers differ
pub apart : true ≡ false → ⊥
apart e = subst T e tt

-- a test that is both ways
pub clash : (t : Bool) → t ≡ true → t ≡ false → ⊥
clash t p q = apart (sym p ∙ q)

pub false_of : (t : Bool) → (t ≡ true → ⊥) → t ≡ false
false_of true h = absurd (h refl)
false_of false h = refl

pub true_of : (t : Bool) → (t ≡ false → ⊥) → t ≡ true
true_of true h = refl
true_of false h = absurd (h refl)

pub either : (t : Bool) → (t ≡ true) ⊎ (t ≡ false)
either true = inl refl
either false = inr refl

pub and_left : (a b : Bool) → a && b ≡ true → a ≡ true
and_left true b e = refl
and_left false b e = absurd (apart (sym e))

pub and_right : (a b : Bool) → a && b ≡ true → b ≡ true
and_right true b e = e
and_right false b e = absurd (apart (sym e))

-- the parts of a test of two tests
pub and_parts : (a b : Bool) → a && b ≡ true → (a ≡ true) × (b ≡ true)
and_parts a b e = (and_left a b e, and_right a b e)

pub and_both : (a b : Bool) → a ≡ true → b ≡ true → a && b ≡ true
and_both true b p q = q
and_both false b p q = absurd (apart (sym p))

pub beq-true : (a b : Bool) → beq a b ≡ true → a ≡ b
beq-true true true e = refl
beq-true true false e = absurd (apart (sym e))
beq-true false true e = absurd (apart (sym e))
beq-true false false e = refl

pub beq_same : (a b : Bool) → a ≡ b → beq a b ≡ true
beq_same true true e = refl
beq_same true false e = absurd (apart e)
beq_same false true e = absurd (apart (sym e))
beq_same false false e = refl

-- two tests that pass together are the same
pub same_test : (a b : Bool) → (a ≡ true → b ≡ true) → (b ≡ true → a ≡ true) → a ≡ b
same_test true b f g = sym (f refl)
same_test false true f g = g refl
same_test false false f g = refl

pub not-of : (t : Bool) → t ≡ false → not t ≡ true
not-of true e = absurd (apart e)
not-of false e = refl

-- ---- every index below a bound

-- every index below passes
pub all_below-at : (k : ℕ) (test : ℕ → Bool) → all_below k test ≡ true → (i : ℕ) → i < k → test i ≡ true
all_below-at zero test e i h = absurd (not-suc-le-zero h)
all_below-at (suc k) test e i h =
    let (below, last) = and_parts (all_below k test) (test k) e in
    elim (ℕ_discrete i k) [
      | yes q ↦ rw q last
      | no q ↦ all_below-at k test below i (omega arith)
    ]

pub all_below-of : (k : ℕ) (test : ℕ → Bool) → ((i : ℕ) → i < k → test i ≡ true) → all_below k test ≡ true
all_below-of zero test f = refl
all_below-of (suc k) test f =
    let below = all_below-of k test (λ i h. f i (omega arith)) in
    and_both (all_below k test) (test k) below (f k (omega arith))

-- an index fails
pub all_below-fails : (k : ℕ) (test : ℕ → Bool) → all_below k test ≡ false → (i : ℕ) × (i < k) × (test i ≡ false)
all_below-fails zero test e = absurd (apart e)
all_below-fails (suc k) test e = elim (either (test k)) [
  | inr q ↦ (k, omega arith, q)
  | inl q ↦ elim (either (all_below k test)) [
    | inr p ↦ let (i, small, fails) = all_below-fails k test p in (i, omega arith, fails)
    | inl p ↦ absurd (clash (all_below k test && test k) (and_both (all_below k test) (test k) p q) e)
  ]
]

pub all_below-iff : (k : ℕ) (test : ℕ → Bool) → (all_below k test ≡ true) ↔ ((i : ℕ) → i < k → test i ≡ true)
all_below-iff k test = (all_below-at k test, all_below-of k test)

-- ---- implication

-- a test that is passed where another one passes
pub implies-elim : (a b : Bool) → not a || b ≡ true → a ≡ true → b ≡ true
implies-elim true b e t = e
implies-elim false b e t = absurd (apart (sym t))

pub implies-intro : (a b : Bool) → (a ≡ true → b ≡ true) → not a || b ≡ true
implies-intro true b f = f refl
implies-intro false b f = refl
