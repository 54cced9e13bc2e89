-- A loop takes the atoms of a set one by one, and replaces what is kept for each; those of `left` are to do.
-- An atom that is taken has its new value, and every other one its old value.
use Prim.Native.Nat.{ℕ}
use native.Mathlib.Decide.{ℕ_discrete}
use mathlib.Core.Path.{◌≡◌, refl, ◌∙◌}
use mathlib.Core.Bool.{Bool, true, false, ◌&&◌, not, cond, and-true, and-not_self}
use lib.Dec.{eqb}
use borrow.Author.Tests.{eq-eqb, ne_eqb}

-- `now` has the new values of the atoms of `found` that are not left
pub record Replaced {A : Type 0} (found left : ℕ → Bool) (old new now : ℕ → A) : Type 0 where
  pub at : (a : ℕ) → now a ≡ cond (found a && not (left a)) (new a) (old a)

module _ {A : Type 0} where
  pub replaced-start : (found : ℕ → Bool) (old new : ℕ → A) → Replaced found found old new old
  replaced-start found old new = record { at = λ a. rw (and-not_self (found a)) }

  -- atom v is taken
  pub replaced-more :
      {found left rest : ℕ → Bool} {old new now next : ℕ → A} {v : ℕ} → ((a : ℕ) → left a ≡ true → found a ≡ true) →
      left v ≡ true → ((a : ℕ) → rest a ≡ (left a && not (eqb a v))) → Replaced found left old new now →
      next v ≡ new v → ((a : ℕ) → (a ≡ v → ⊥) → next a ≡ now a) → Replaced found rest old new next
  replaced-more {found} {left} {rest} {old} {new} {next = next} {v = v} within is-in rest-is was here others =
      record { at = λ a. split a (ℕ_discrete a v) }
    where
      split : (a : ℕ) → Dec (a ≡ v) → next a ≡ cond (found a && not (rest a)) (new a) (old a)
      split a (yes q) = rw (q, rest-is v, eq-eqb v v refl, within v is-in, is-in) here
      split a (no q) = rw (rest-is a, ne_eqb a v q, and-true (left a), ← was.at a) (others a q)

  -- no atom is left
  pub replaced-end :
      {found left : ℕ → Bool} {old new now : ℕ → A} → ((a : ℕ) → left a ≡ false) → Replaced found left old new now →
      (a : ℕ) → now a ≡ cond (found a) (new a) (old a)
  replaced-end {found} empty was a = was.at a ∙ rw (empty a, and-true (found a))
