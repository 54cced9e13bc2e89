-- The record check's tests, bit by bit and byte by byte, and its chains.
-- Each law turns what the code found at one place into the value of the definition there.
use Prim.Native.Nat.{ℕ, zero, suc, ◌+◌, ◌*◌, ◌/◌, ◌%◌, ◌^◌, ◌<◌}
use native.Mathlib.Nat.{zero-div, zero-add}
use native.Mathlib.Numerals.{add-one}
use native.Mathlib.Omega.{arith}
use mathlib.Core.Path.{◌≡◌, refl, ap, ap₂, sym, ◌∙◌}
use mathlib.Core.Bool.{Bool, true, ◌&&◌, and-true}
use mathlib.Core.List.{List, [], ◌∷◌, map}
use lib.ListN.{length, get_or}
use lib.Count.{ones}
use borrow.Author.Tests.{eq-eqb, ne_eqb}
use Rattle.std.specs.List.{list_all, range_with_len, sum_by}
use Rattle.std.proofs.lemmas.List.Folds.{list_all-append, list_all-map}
use Rattle.std.proofs.lemmas.List.Sums.{sum_by-cons}
use Rattle.std.proofs.lemmas.List.FromFn.{map-range_with_len_more}
use Rattle.graph.specs.Every.{all_below}
use Rattle.graph.proofs.Below.{all_below-of}
use Rattle.molecule.specs.Record.{ones_of, rows_of_bytes}
use Rattle.molecule.specs.Parts.{mirrored, bit_sound, byte_sound}
use Rattle.molecule.proofs.Rules.{rows-of-bytes}

module _ (rows : List ℕ) (n at : ℕ) where
  -- bit k of the byte, as the code reads it
  abbrev digit : ℕ → ℕ
  digit k = get_or rows at 0 / 2 ^ k % 2

  pub bit-clear : (k : ℕ) → (digit k ≡ 1 → ⊥) → bit_sound rows n at k ≡ true
  unfolding bit_sound
  bit-clear k clear = rw (ne_eqb (digit k) 1 clear)

  pub bit-set : (k : ℕ) → digit k ≡ 1 → mirrored rows n (at / 16) (at % 16 * 8 + k) ≡ bit_sound rows n at k
  unfolding bit_sound
  bit-set k set = rw (eq-eqb (digit k) 1 set)

  pub zero-byte : get_or rows at 0 ≡ 0 → byte_sound rows n at ≡ true
  unfolding byte_sound
  zero-byte none = all_below-of 8 (bit_sound rows n at) (λ k h. bit-clear k (λ set. clear k set))
    where
      clear : (k : ℕ) → digit k ≡ 1 → ⊥
      clear k set =
          let off : digit k ≡ 0 = rw (none, zero-div (2 ^ k)) in
          omega arith

-- ---- chains of the library's methods, as the definitions have them

-- every number below a bound passes
module _ (test : ℕ → Bool) where
  all_pass : (n : ℕ) → list_all (λ t. t) (map test (range_with_len 0 n)) ≡ all_below n test
  all_pass zero = refl
  all_pass (suc n) =
      let before = map test (range_with_len 0 n) in
      ap (list_all (λ t. t)) (rw add-one at (map-range_with_len_more test 0 n n (zero-add n)))
      ∙ list_all-append (λ t. t) before (test n ∷ [])
      ∙ ap₂ ◌&&◌ (all_pass n) (and-true (test n))

  pub all-range : (n : ℕ) → list_all test (range_with_len 0 n) ≡ all_below n test
  all-range n = sym (list_all-map (λ t. t) test (range_with_len 0 n)) ∙ all_pass n

-- the ones of each byte, summed
pub ones-sum : (xs : List ℕ) → sum_by ones xs ≡ ones_of xs
unfolding ones_of
ones-sum [] = refl
ones-sum (x ∷ xs) = sum_by-cons ones x xs ∙ ap (λ s. ones x + s) (ones-sum xs)

-- 2,048 bytes
pub bytes-told :
    (xs : List ℕ) → ((i : ℕ) → get_or xs i 0 < 256) → length xs ≡ 2048 → rows_of_bytes xs ≡ true
bytes-told xs byte size = rows-of-bytes (record { size = size; byte = byte })
