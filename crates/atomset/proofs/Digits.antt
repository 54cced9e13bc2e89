-- The bits of the words that the operations make: and, or, difference, one bit, the low bits, and bytes
-- joined. By induction on the place, a bit at a time from the lowest.
use Prim.Native.Nat.{ℕ, zero, suc, ◌+◌, ◌-◌, ◌*◌, ◌/◌, ◌%◌, ◌^◌, ◌≤◌, ◌<◌, min, max}
use native.Mathlib.Nat.{zero-div, pow-suc, mod-lt, min-le_left, zero-lt-suc}
use native.Mathlib.Omega.{arith}
use native.Mathlib.Decide.{ℕ_discrete}
use mathlib.Core.Path.{◌≡◌, refl, ap, ap₂, sym, ◌∙◌}
use mathlib.Core.Bool.{Bool, true, false, ◌&&◌, ◌||◌, not}
use lib.Dec.{ltb, eqb, leb-suc-suc}
use Rattle.std.proofs.lemmas.Nat.Bits.{bit_at_and, bit_at_or, bit_at-pow_same, bit_at-pow_other}
use lib.Pow.{pow_pos, shr-shr, high}
use lib.Bits.{bit_and, bit_or, and_step, and_le_l, block_half, block_odd}
use borrow.Author.Tests.{eqb-true, eq-eqb, ne_eqb, lt-ltb, le-ltb}
use Rattle.molecule.specs.Record.{bit}
use Rattle.molecule.proofs.Bits.{bit-first, bit-half}

pub bit-none : (k : ℕ) → bit 0 k ≡ false
bit-none k = rw (zero-div (2 ^ k))

digit : (x : ℕ) → x % 2 < 2
digit x = mod-lt x (zero-lt-suc 1)

-- and, or

and-digit : (p q : ℕ) → p < 2 → q < 2 → eqb (min p q) 1 ≡ (eqb p 1 && eqb q 1)
and-digit zero zero hp hq = refl
and-digit zero (suc zero) hp hq = refl
and-digit zero (suc (suc q)) hp hq = absurd (omega arith)
and-digit (suc zero) zero hp hq = refl
and-digit (suc zero) (suc zero) hp hq = refl
and-digit (suc zero) (suc (suc q)) hp hq = absurd (omega arith)
and-digit (suc (suc p)) q hp hq = absurd (omega arith)

or-digit : (p q : ℕ) → p < 2 → q < 2 → eqb (max p q) 1 ≡ (eqb p 1 || eqb q 1)
or-digit zero zero hp hq = refl
or-digit zero (suc zero) hp hq = refl
or-digit zero (suc (suc q)) hp hq = absurd (omega arith)
or-digit (suc zero) zero hp hq = refl
or-digit (suc zero) (suc zero) hp hq = refl
or-digit (suc zero) (suc (suc q)) hp hq = absurd (omega arith)
or-digit (suc (suc p)) q hp hq = absurd (omega arith)

pub bit-and : (x y k : ℕ) → bit (bit_and x y) k ≡ (bit x k && bit y k)
bit-and x y k =
    let p = x / 2 ^ k in
    let q = y / 2 ^ k in
    rw (bit_at_and x y k) (and-digit (p % 2) (q % 2) (digit p) (digit q))

pub bit-or : (x y k : ℕ) → bit (bit_or x y) k ≡ (bit x k || bit y k)
bit-or x y k =
    let p = x / 2 ^ k in
    let q = y / 2 ^ k in
    rw (bit_at_or x y k) (or-digit (p % 2) (q % 2) (digit p) (digit q))

-- a number less what it shares with another: no place borrows from the next

half-less : (x a r m : ℕ) → a ≡ r * 2 + m → r ≤ x / 2 → m ≤ x % 2 → (x - a) / 2 ≡ x / 2 - r
half-less x a r m e h l = omega arith

odd-less : (x a r m : ℕ) → a ≡ r * 2 + m → r ≤ x / 2 → m ≤ x % 2 → (x - a) % 2 ≡ x % 2 - m
odd-less x a r m e h l = omega arith

and-half : (x y : ℕ) → (x - bit_and x y) / 2 ≡ x / 2 - bit_and (x / 2) (y / 2)
and-half x y =
    half-less x (bit_and x y) (bit_and (x / 2) (y / 2)) (min (x % 2) (y % 2)) (and_step x y) (and_le_l (x / 2) (y / 2))
    (min-le_left (x % 2) (y % 2))

and-odd : (x y : ℕ) → (x - bit_and x y) % 2 ≡ x % 2 - min (x % 2) (y % 2)
and-odd x y =
    odd-less x (bit_and x y) (bit_and (x / 2) (y / 2)) (min (x % 2) (y % 2)) (and_step x y) (and_le_l (x / 2) (y / 2))
    (min-le_left (x % 2) (y % 2))

less-digit : (p q : ℕ) → p < 2 → q < 2 → eqb (p - min p q) 1 ≡ (eqb p 1 && not (eqb q 1))
less-digit zero zero hp hq = refl
less-digit zero (suc zero) hp hq = refl
less-digit zero (suc (suc q)) hp hq = absurd (omega arith)
less-digit (suc zero) zero hp hq = refl
less-digit (suc zero) (suc zero) hp hq = refl
less-digit (suc zero) (suc (suc q)) hp hq = absurd (omega arith)
less-digit (suc (suc p)) q hp hq = absurd (omega arith)

pub bit-less : (x y k : ℕ) → bit (x - bit_and x y) k ≡ (bit x k && not (bit y k))
bit-less x y zero =
    bit-first (x - bit_and x y) ∙ ap (λ (n : ℕ). eqb n 1) (and-odd x y) ∙
    less-digit (x % 2) (y % 2) (digit x) (digit y) ∙
    ap₂ (λ (p q : Bool). p && not q) (sym (bit-first x)) (sym (bit-first y))
bit-less x y (suc k) =
    bit-half (x - bit_and x y) k ∙ ap (λ (n : ℕ). bit n k) (and-half x y) ∙ bit-less (x / 2) (y / 2) k ∙
    ap₂ (λ (p q : Bool). p && not q) (sym (bit-half x k)) (sym (bit-half y k))

-- one bit

pub bit-power : (i k : ℕ) → bit (2 ^ i) k ≡ eqb k i
bit-power i k = elim (ℕ_discrete k i) [
  | yes e ↦ rw (e, bit_at-pow_same i, eq-eqb i i refl)
  | no d ↦ rw (bit_at-pow_other i k d, ne_eqb k i d)
]

-- the low bits

pub bit-ones : (i k : ℕ) → bit (2 ^ i - 1) k ≡ ltb k i
bit-ones zero k = bit-none k ∙ sym (le-ltb k 0 (omega arith))
bit-ones (suc i) zero =
    let odd : (2 ^ suc i - 1) % 2 ≡ 1 = rw (pow-suc 2 i) (omega (arith, pow_pos i)) in
    bit-first (2 ^ suc i - 1) ∙ ap (λ (n : ℕ). eqb n 1) odd ∙ sym (lt-ltb 0 (suc i) (omega arith))
bit-ones (suc i) (suc k) =
    let half : (2 ^ suc i - 1) / 2 ≡ 2 ^ i - 1 = rw (pow-suc 2 i) (omega (arith, pow_pos i)) in
    bit-half (2 ^ suc i - 1) k ∙ ap (λ (n : ℕ). bit n k) half ∙ bit-ones i k ∙ sym (leb-suc-suc (suc k) i)

-- one less: the lowest bit goes, those above it stay

module _ (j n : ℕ) (set : bit n (suc j) ≡ true) (least : (i : ℕ) → bit n i ≡ true → suc j ≤ i) where
  even-low : n % 2 ≡ 1 → ⊥
  even-low e = let low : suc j ≤ 0 = least 0 (bit-first n ∙ eq-eqb (n % 2) 1 e) in omega arith

  half-one-less : (n - 1) / 2 ≡ n / 2 - 1
  half-one-less = omega (arith, even-low)

  half-set : bit (n / 2) j ≡ true
  half-set = sym (bit-half n j) ∙ set

  half-least : (i : ℕ) → bit (n / 2) i ≡ true → j ≤ i
  half-least i e = let up : suc j ≤ suc i = least (suc i) (bit-half n i ∙ e) in omega arith

at-lowest : (j n : ℕ) → bit n j ≡ true → ((i : ℕ) → bit n i ≡ true → j ≤ i) → bit (n - 1) j ≡ false
at-lowest zero n set least =
    let odd : n % 2 ≡ 1 = eqb-true (n % 2) 1 (sym (bit-first n) ∙ set) in
    let even : (n - 1) % 2 ≡ 0 = omega arith in
    bit-first (n - 1) ∙ ap (λ (d : ℕ). eqb d 1) even
at-lowest (suc j) n set least =
    bit-half (n - 1) j ∙ ap (λ (m : ℕ). bit m j) (half-one-less j n set least)
    ∙ at-lowest j (n / 2) (half-set j n set least) (half-least j n set least)

above-lowest :
    (j n k : ℕ) → bit n j ≡ true → ((i : ℕ) → bit n i ≡ true → j ≤ i) → bit n k ≡ true → (k ≡ j → ⊥) →
    bit (n - 1) k ≡ true
above-lowest zero n zero set least b d = absurd (d refl)
above-lowest zero n (suc k) set least b d =
    let odd : n % 2 ≡ 1 = eqb-true (n % 2) 1 (sym (bit-first n) ∙ set) in
    let half : (n - 1) / 2 ≡ n / 2 = omega arith in
    bit-half (n - 1) k ∙ ap (λ (m : ℕ). bit m k) half ∙ sym (bit-half n k) ∙ b
above-lowest (suc j) n zero set least b d = let low : suc j ≤ 0 = least 0 b in absurd (omega arith)
above-lowest (suc j) n (suc k) set least b d =
    bit-half (n - 1) k ∙ ap (λ (m : ℕ). bit m k) (half-one-less j n set least)
    ∙ above-lowest j (n / 2) k (half-set j n set least) (half-least j n set least) (sym (bit-half n k) ∙ b)
    (λ e. d (ap suc e))

-- `n & (n - 1)` has the bits of n but for its lowest
pub bit-cleared :
    (n j : ℕ) → bit n j ≡ true → ((i : ℕ) → bit n i ≡ true → j ≤ i) → (k : ℕ) →
    bit (bit_and n (n - 1)) k ≡ (bit n k && not (eqb k j))
bit-cleared n j set least k = bit-and n (n - 1) k ∙ split (ℕ_discrete k j) (bit n k) refl
  where
    split : Dec (k ≡ j) → (t : Bool) → bit n k ≡ t → (bit n k && bit (n - 1) k) ≡ (bit n k && not (eqb k j))
    split q false b = rw b
    split (yes e) true b =
        let gone : bit (n - 1) k ≡ false = ap (bit (n - 1)) e ∙ at-lowest j n set least in
        rw (b, gone, eq-eqb k j e)
    split (no d) true b = rw (b, above-lowest j n k set least b d, ne_eqb k j d)

-- a number above another

pub bit-low : (hi k lo j : ℕ) → j < k → bit (hi * 2 ^ k + lo) j ≡ bit lo j
bit-low hi zero lo j h = absurd (omega arith)
bit-low hi (suc k) lo zero h =
    bit-first (hi * 2 ^ suc k + lo) ∙ ap (λ (n : ℕ). eqb n 1) (block_odd hi k lo) ∙ sym (bit-first lo)
bit-low hi (suc k) lo (suc j) h =
    bit-half (hi * 2 ^ suc k + lo) j ∙ ap (λ (n : ℕ). bit n j) (block_half hi k lo) ∙
    bit-low hi k (lo / 2) j (omega arith) ∙ sym (bit-half lo j)

pub bit_high : (hi k lo j : ℕ) → lo < 2 ^ k → bit (hi * 2 ^ k + lo) (k + j) ≡ bit hi j
bit_high hi k lo j h =
    ap (λ (n : ℕ). eqb (n % 2) 1) (sym (shr-shr (hi * 2 ^ k + lo) k j) ∙ ap (λ (n : ℕ). n / 2 ^ j) (high hi k h))
