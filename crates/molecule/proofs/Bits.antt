-- The bits of a number: how many there are, and that they tell it, as the cells of rows of bytes tell the rows.
-- By halving: bit k + 1 of a number is bit k of its half.
use Prim.Native.Nat.{ℕ, zero, suc, ◌+◌, ◌*◌, ◌/◌, ◌%◌, ◌^◌, ◌<◌}
use native.Mathlib.Nat.{pow-suc, pow-zero, div-one}
use native.Mathlib.Numerals.{one-add}
use native.Mathlib.Omega.{arith}
use mathlib.Core.Path.{◌≡◌, ap, ap₂, sym, ◌∙◌}
use mathlib.Core.Bool.{Bool, true, false, cond}
use mathlib.Core.List.{List}
use mathlib.Core.Logic.{◌⊎◌, inl, inr}
use lib.ListN.{get_or}
use lib.Seq.{ext_get_or}
use lib.Dec.{eqb}
use lib.Pow.{shr-shr}
use lib.Count.{ones, ones_step, ones-le}
use borrow.Author.Tests.{eqb-true, eqb-false}
use Rattle.graph.proofs.Below.{either}
use Rattle.graph.proofs.Sums.{sum, sum_first}
use Rattle.molecule.specs.Record.{bit, cell}
use Rattle.molecule.proofs.Rules.{Rows}

-- ---- halving

pub bit-half : (x k : ℕ) → bit x (suc k) ≡ bit (x / 2) k
bit-half x k = ap (λ n. eqb (n % 2) 1) (ap (λ n. x / 2 ^ n) (sym (one-add k)) ∙ sym (shr-shr x 1 k))

pub bit-first : (x : ℕ) → bit x 0 ≡ eqb (x % 2) 1
bit-first x = ap (λ n. eqb (n % 2) 1) (div-one x)

-- ---- how many there are

-- a test as a number
abbrev pub number : Bool → ℕ
number t = cond t 1 0

digit : (r : ℕ) → r < 2 → r ≡ number (eqb r 1)
digit r h = go (either (eqb r 1))
  where
    go : (eqb r 1 ≡ true) ⊎ (eqb r 1 ≡ false) → r ≡ number (eqb r 1)
    go (inl t) = rw t (eqb-true r 1 t)
    go (inr f) = rw f (let other = eqb-false r 1 f in omega arith)

pub ones-bits : (w x : ℕ) → x < 2 ^ w → ones x ≡ sum w (λ k. number (bit x k))
unfolding sum
ones-bits zero x h = let none = ones-le 0 x h in omega (arith, none)
ones-bits (suc w) x h =
    let p = pow-suc 2 w in
    let first : x % 2 ≡ number (bit x 0) = digit (x % 2) (omega arith) ∙ ap number (sym (bit-first x)) in
    let later = ones-bits w (x / 2) (omega arith) in
    ones_step x ∙ ap₂ ◌+◌ first (simp bit-half later) ∙ sym (sum_first w (λ k. number (bit x k)))

-- ---- they tell the number

same-digit : (p q : ℕ) → p < 2 → q < 2 → eqb p 1 ≡ eqb q 1 → p ≡ q
same-digit p q hp hq e = digit p hp ∙ ap number e ∙ sym (digit q hq)

pub same_bits : (w x y : ℕ) → x < 2 ^ w → y < 2 ^ w → ((k : ℕ) → k < w → bit x k ≡ bit y k) → x ≡ y
same_bits zero x y hx hy e = omega (arith, pow-zero 2)
same_bits (suc w) x y hx hy e =
    let p = pow-suc 2 w in
    let first = sym (bit-first x) ∙ e 0 (omega arith) ∙ bit-first y in
    let digits = same-digit (x % 2) (y % 2) (omega arith) (omega arith) first in
    let halves = same_bits w (x / 2) (y / 2) (omega arith) (omega arith) half-bits in
    omega (arith, digits, halves)
  where
    half-bits : (k : ℕ) → k < w → bit (x / 2) k ≡ bit (y / 2) k
    half-bits k h = sym (bit-half x k) ∙ e (suc k) (omega arith) ∙ bit-half y k

-- rows are told by their cells
pub same_rows : (a b : List ℕ) → Rows a → Rows b → ((i j : ℕ) → i < 128 → j < 128 → cell a i j ≡ cell b i j) → a ≡ b
unfolding cell
same_rows a b ra rb e =
    ext_get_or 0 a b (ra.size ∙ sym rb.size) (λ at h. same_byte at (omega (arith, ra.size)))
  where
    here : (at k : ℕ) → at < 2048 → k < 8 → bit (get_or a at 0) k ≡ bit (get_or b at 0) k
    here at k place offset =
        let same_place : 16 * (at / 16) + (at % 16 * 8 + k) / 8 ≡ at = omega arith in
        let same_bit : (at % 16 * 8 + k) % 8 ≡ k = omega arith in
        rw (same_place, same_bit) at (e (at / 16) (at % 16 * 8 + k) (omega arith) (omega arith))

    same_byte : (at : ℕ) → at < 2048 → get_or a at 0 ≡ get_or b at 0
    same_byte at place =
        same_bits 8 (get_or a at 0) (get_or b at 0) (ra.byte at) (rb.byte at) (λ k l. here at k place l)
