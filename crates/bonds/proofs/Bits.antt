-- A byte with one bit set: which bits it has, how many, and that it is still a byte.
-- By halving: bit k + 1 of a number is bit k of its half.
use Prim.Native.Nat.{ℕ, zero, suc, ◌+◌, ◌*◌, ◌/◌, ◌%◌, ◌^◌, ◌<◌}
use native.Mathlib.Nat.{pow-suc, one-mul, zero-mul}
use native.Mathlib.Omega.{arith}
use mathlib.Core.Path.{◌≡◌, refl, sym, ◌∙◌}
use mathlib.Core.Bool.{Bool, true, false, ◌||◌, cond, or-false, or-true}
use Rattle.std.specs.Int.Bits.{bit_and, bit_or, or_add_and}
use Rattle.std.proofs.lemmas.Nat.Bits.{and_pow}
use lib.Dec.{eqb, eqb-suc-suc, eqb-zero-suc, eqb-suc-zero}
use lib.Pow.{shl_exact}
use lib.Count.{ones, ones_step}
use borrow.Author.Tests.{eq-eqb, ne_eqb, eqb-true, eqb-false}
use Rattle.molecule.specs.Record.{bit}
use Rattle.molecule.proofs.Bits.{bit-half, bit-first}
use Rattle.bonds.specs.Bonds.{with_bit}

-- a number with a bit set, by its half: the first bit, and a later one
abbrev odd : ℕ → ℕ
odd x = x / 2 * 2 + 1

abbrev on_half : ℕ → ℕ → ℕ
on_half x k = with_bit (x / 2) k * 2 + x % 2

with_first : (x : ℕ) → with_bit x 0 ≡ odd x
unfolding with_bit
with_first x = rw (bit-first x) (go (x % 2) refl)
  where
    go : (r : ℕ) → x % 2 ≡ r → cond (eqb (x % 2) 1) x (x + 2 ^ 0) ≡ x / 2 * 2 + 1
    go zero e = rw (ne_eqb (x % 2) 1 (omega arith)) (omega arith)
    go (suc zero) e = rw (eq-eqb (x % 2) 1 e) (omega arith)
    go (suc (suc r)) e = absurd (omega arith)

with-later : (x k : ℕ) → with_bit x (suc k) ≡ on_half x k
unfolding with_bit
with-later x k = rw (bit-half x k) (go (bit (x / 2) k))
  where
    go : (t : Bool) → cond t x (x + 2 ^ suc k) ≡ cond t (x / 2) (x / 2 + 2 ^ k) * 2 + x % 2
    go true = omega arith
    go false = let p = pow-suc 2 k in omega (arith, p)

-- their lowest bit and their half
odd_low : (x : ℕ) → odd x % 2 ≡ 1
odd_low x = omega arith

odd-half : (x : ℕ) → odd x / 2 ≡ x / 2
odd-half x = omega arith

on-half-low : (x k : ℕ) → on_half x k % 2 ≡ x % 2
on-half-low x k = omega arith

on-half-half : (x k : ℕ) → on_half x k / 2 ≡ with_bit (x / 2) k
on-half-half x k = omega arith

-- The bits of a number with bit k set: those that it had, and k
pub with-bit : (k x j : ℕ) → bit (with_bit x k) j ≡ bit x j || eqb k j
with-bit zero x zero =
    rw (with_first x, bit-first (odd x), eq-eqb (odd x % 2) 1 (odd_low x)) (sym (or-true (bit x 0)))
with-bit zero x (suc j) =
    rw (with_first x, bit-half (odd x) j, odd-half x, eqb-zero-suc j, or-false (bit x (suc j))) (sym (bit-half x j))
with-bit (suc k) x zero =
    rw (with-later x k, bit-first (on_half x k), on-half-low x k, eqb-suc-zero k, or-false (bit x 0))
    (sym (bit-first x))
with-bit (suc k) x (suc j) =
    rw (with-later x k, bit-half (on_half x k) j, on-half-half x k, eqb-suc-suc k j, bit-half x j)
    (with-bit k (x / 2) j)

-- One bit more
pub with-ones : (k x : ℕ) → bit x k ≡ false → ones (with_bit x k) ≡ suc (ones x)
with-ones zero x e =
    let clear : x % 2 ≡ 1 → ⊥ = eqb-false (x % 2) 1 (sym (bit-first x) ∙ e) in
    rw (with_first x, ones_step (odd x), odd_low x, odd-half x, ones_step x, even clear) (omega arith)
  where
    even : (x % 2 ≡ 1 → ⊥) → x % 2 ≡ 0
    even f = go (x % 2) refl
      where
        go : (r : ℕ) → x % 2 ≡ r → x % 2 ≡ 0
        go zero e = e
        go (suc zero) e = absurd (f e)
        go (suc (suc r)) e = absurd (omega arith)
with-ones (suc k) x e =
    let more = with-ones k (x / 2) (sym (bit-half x k) ∙ e) in
    rw (with-later x k, ones_step (on_half x k), on-half-low x k, on-half-half x k, more, ones_step x) (omega arith)

-- It keeps to its number of bits
pub with-below : (w k x : ℕ) → k < w → x < 2 ^ w → with_bit x k < 2 ^ w
with-below zero k x h b = absurd (omega arith)
with-below (suc w) zero x h b = let p = pow-suc 2 w in rw (with_first x) (omega (arith, p))
with-below (suc w) (suc k) x h b =
    let p = pow-suc 2 w in
    let half : x / 2 < 2 ^ w = omega (arith, p) in
    let more = with-below w k (x / 2) (omega arith) half in
    rw (with-later x k) (omega (arith, p, more))

-- ---- as the code makes it

-- the bit alone, where it is set and where it is clear
bit-alone : (x k : ℕ) → bit x k ≡ true → bit_and x (2 ^ k) ≡ 2 ^ k
bit-alone x k set = and_pow x k ∙ rw (eqb-true (x / 2 ^ k % 2) 1 set) (one-mul (2 ^ k))

bit-none : (x k : ℕ) → bit x k ≡ false → bit_and x (2 ^ k) ≡ 0
bit-none x k clear =
    let other = eqb-false (x / 2 ^ k % 2) 1 clear in
    let off : x / 2 ^ k % 2 ≡ 0 = omega arith in
    and_pow x k ∙ rw off (zero-mul (2 ^ k))

-- a byte or-ed with the shift that makes a bit
pub or-sets : (x k : ℕ) → k < 8 → bit_or x (1 * 2 ^ k % 256) ≡ with_bit x k
unfolding with_bit
or-sets x k h =
    let shift : 1 * 2 ^ k % 256 ≡ 2 ^ k = shl_exact 1 k 8 (omega arith) (omega arith) ∙ one-mul (2 ^ k) in
    rw shift (go (bit x k) refl)
  where
    go : (t : Bool) → bit x k ≡ t → bit_or x (2 ^ k) ≡ cond t x (x + 2 ^ k)
    go true e = omega (arith, or_add_and x (2 ^ k), bit-alone x k e)
    go false e = omega (arith, or_add_and x (2 ^ k), bit-none x k e)
