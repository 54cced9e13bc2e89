-- Buffers after a copy, and what a reader returns and writes: a record's bytes behind its head.
-- From the laws of `take`, `drop` and `++`.
use Rattle.std.specs.Prelude.{Err, Ok, Result}
use Prim.Native.Nat.{ℕ, ◌+◌, ◌-◌, ◌≤◌}
use native.Mathlib.Omega.{arith}
use mathlib.Core.Path.{◌≡◌, refl, ap, ap₂, ◌∙◌}
use mathlib.Core.List.{List, [], ◌∷◌, ◌++◌, append-nil}
use lib.ListN.{length, take, drop, set, length-append, drop_of_length-le}
use lib.Seq.{take_at, drop_at}
use borrow.Author.Tests.{eq-eqb, ne_eqb}
use Rattle.refusal.specs.declared.Refusal.{Refusal}
use Rattle.refusal.specs.Number.{number_of}
use Rattle.flat.specs.Codes.{wrong_length, flat_bytes, read_code, read_output}
use Rattle.molecule.specs.declared.Molecule.{Molecule}

pub four-set :
    (xs : List ℕ) (a b c d : ℕ) → 4 ≤ length xs →
    set (set (set (set xs 0 a) 1 b) 2 c) 3 d ≡ (a ∷ b ∷ c ∷ d ∷ []) ++ drop 4 xs
four-set [] a b c d h = absurd (omega arith)
four-set (x ∷ []) a b c d h = absurd (omega arith)
four-set (x ∷ y ∷ []) a b c d h = absurd (omega arith)
four-set (x ∷ y ∷ z ∷ []) a b c d h = absurd (omega arith)
four-set (x ∷ y ∷ z ∷ w ∷ xs) a b c d h = refl

-- rows behind a head of four bytes, as a copy says of the part that it wrote
pub behind-copied :
    (head rest rows out part : List ℕ) → length head ≡ 4 → length rest ≡ length rows → out ≡ head ++ rest →
    part ≡ rows → take 4 out ++ (part ++ drop (length out - 4) (drop 4 out)) ≡ head ++ rows
behind-copied head rest rows out part four same whole copied =
    ap₂ (λ a b. a ++ b) head-is (ap₂ (λ a b. a ++ b) copied none ∙ append-nil rows)
  where
    head-is : take 4 out ≡ head
    head-is = ap (take 4) whole ∙ take_at head rest 4 four

    tail-is : drop 4 out ≡ rest
    tail-is = ap (drop 4) whole ∙ drop_at head rest 4 four

    size : length out ≡ 4 + length rest
    size = ap length whole ∙ length-append head rest ∙ ap (λ k. k + length rest) four

    none : drop (length out - 4) (drop 4 out) ≡ []
    none = let whole-size = size in drop_of_length-le (drop 4 out) (rw tail-is (omega arith))

-- what a reader returns and writes, by its answer
module _ (out : List ℕ) where
  abbrev Left : Result Molecule Refusal → ℕ → List ℕ → Type 0
  Left read code out' = (code ≡ read_code read out) × (out' ≡ read_output read out)

  pub read-wrong-length : (read : Result Molecule Refusal) → (length out ≡ 2052 → ⊥) → Left read wrong_length out
  unfolding read_code read_output
  read-wrong-length read wrong = (rw (ne_eqb (length out) 2052 wrong), rw (ne_eqb (length out) 2052 wrong))

  module _ (size : length out ≡ 2052) where
    pub read-accepted : (mol : Molecule) {out' : List ℕ} → out' ≡ flat_bytes mol → Left (Ok mol) 0 out'
    unfolding read_code read_output
    read-accepted mol written = (rw (eq-eqb (length out) 2052 size), rw (eq-eqb (length out) 2052 size) written)

    pub read-refused : (r : Refusal) {code : ℕ} → code ≡ number_of r → Left (Err r) code out
    unfolding read_code read_output
    read-refused r is = (rw (eq-eqb (length out) 2052 size) is, rw (eq-eqb (length out) 2052 size))
