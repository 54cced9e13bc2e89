-- The built-in table, by the three bytes of a symbol: it has one capital letter and two blanks.
-- The definition computes, byte by byte.
use Prim.Native.Nat.{ℕ}
use mathlib.Core.Path.{◌≡◌, refl, sym}
use mathlib.Core.Bool.{and-false}
use mathlib.Core.List.{[], ◌∷◌}
use borrow.Author.Tests.{ne_eqb}
use Rattle.molfile.specs.Lines.{stands}
use Rattle.molfile.specs.Elements.{one_letter, built_in, limit_of}

-- The seven values of the table: H 1, C 4, N 4, O 3, F 1, P 6, S 6
pub built-in-limits :
    (limit_of built_in (one_letter 72) ≡ 1) × (limit_of built_in (one_letter 67) ≡ 4) ×
    (limit_of built_in (one_letter 78) ≡ 4) × (limit_of built_in (one_letter 79) ≡ 3) ×
    (limit_of built_in (one_letter 70) ≡ 1) × (limit_of built_in (one_letter 80) ≡ 6) ×
    (limit_of built_in (one_letter 83) ≡ 6)
unfolding limit_of stands
built-in-limits = (refl, refl, refl, refl, refl, refl, refl)

-- a symbol without a blank in its second column, or in its third, is in no row
pub second-other : (a b c : ℕ) → (b ≡ 32 → ⊥) → 0 ≡ limit_of built_in (a ∷ b ∷ c ∷ [])
unfolding limit_of stands
second-other a b c other = simp (ne_eqb b 32 other, and-false)

pub third-other : (a b c : ℕ) → (c ≡ 32 → ⊥) → 0 ≡ limit_of built_in (a ∷ b ∷ c ∷ [])
unfolding limit_of stands
third-other a b c other = simp (ne_eqb c 32 other, and-false)

module _ {b c : ℕ} (second : b ≡ 32) (third : c ≡ 32) where
  -- a letter of the table
  pub letter :
      {a k v : ℕ} → limit_of built_in (k ∷ 32 ∷ 32 ∷ []) ≡ v → a ≡ k → v ≡ limit_of built_in (a ∷ b ∷ c ∷ [])
  letter limit e = rw (e, second, third) (sym limit)

  -- another byte
  pub no-letter :
      (a : ℕ) → (a ≡ 72 → ⊥) → (a ≡ 67 → ⊥) → (a ≡ 78 → ⊥) → (a ≡ 79 → ⊥) → (a ≡ 70 → ⊥) → (a ≡ 80 → ⊥) →
      (a ≡ 83 → ⊥) → 0 ≡ limit_of built_in (a ∷ b ∷ c ∷ [])
  unfolding limit_of stands
  no-letter a h c' n o f p s =
      simp (ne_eqb a 72 h, ne_eqb a 67 c', ne_eqb a 78 n, ne_eqb a 79 o, ne_eqb a 70 f, ne_eqb a 80 p, ne_eqb a 83 s)
