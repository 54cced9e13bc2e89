-- Digits of a field, in either filling: what digits that were read tell, and one digit more.
-- By the digits that follow, one at a time.
use Prim.Native.Nat.{ℕ, suc, ◌+◌, ◌-◌, ◌*◌, ◌^◌, ◌≤◌, ◌<◌}
use native.Mathlib.Nat.{pow-suc, add-zero, add-suc, suc-add}
use native.Mathlib.Omega.{arith}
use mathlib.Core.Path.{◌≡◌, refl, ap, sym, ◌∙◌}
use mathlib.Core.Bool.{Bool, true, false, ◌&&◌, cond, true≢false}
use mathlib.Core.List.{List, [], ◌∷◌, ◌++◌}
use Rattle.std.specs.Prelude.{Option, Some, None}
use lib.ListN.{length}
use lib.Dec.{leb}
use borrow.Author.Tests.{le-leb, leb-true}
use Rattle.fields.specs.declared.Number.{Number}
use Rattle.fields.specs.Field.{number, limit, is_digit, may_follow, digits, value_of}

-- a test that was passed on the way to a value
pub passed :
    (t : Bool) (x : Option Number) (v : ℕ) (filled : Bool) → cond t x None ≡ number v filled →
    (t ≡ true) × (x ≡ number v filled)
passed true x v filled e = (refl, e)
passed false x v filled e = let z : ◌≡◌ {A = ℕ} 0 1 = cc in absurd (omega arith)

abbrev zeros_of : Option Number → Bool
zeros_of (Some x) = x.zeros
zeros_of None = false

pub same_number :
    (v w : ℕ) (zeros filled : Bool) → number v zeros ≡ number w filled → (v ≡ w) × (zeros ≡ filled)
same_number v w zeros filled e = (ap value_of e, ap zeros_of e)

pub both : (a b : Bool) → (a && b) ≡ true → (a ≡ true) × (b ≡ true)
both true b e = (refl, e)
both false b e = absurd (true≢false (sym e))

-- ---- what digits that were read tell

-- what a digit b that was read after the value w tells
pub record DigitRead (zeros : Bool) (w b : ℕ) (bs : List ℕ) (v : ℕ) (filled : Bool) : Type 0 where
  pub low : 48 ≤ b
  pub high : b ≤ 57
  pub may : may_follow zeros w ≡ true
  pub fits : w * 10 + (b - 48) ≤ limit
  pub rest : digits zeros (w * 10 + (b - 48)) bs ≡ number v filled

pub digits-end-value :
    (zeros : Bool) (w v : ℕ) (filled : Bool) → digits zeros w [] ≡ number v filled → (w ≡ v) × (zeros ≡ filled)
unfolding digits
digits-end-value zeros w v filled e = same_number w v zeros filled e

module _ (zeros : Bool) where
  pub digit-read :
      (w b : ℕ) (bs : List ℕ) (v : ℕ) (filled : Bool) → digits zeros w (b ∷ bs) ≡ number v filled →
      DigitRead zeros w b bs v filled
  unfolding digits
  digit-read w b bs v filled e =
      let now = w * 10 + (b - 48) in
      let tests = passed (is_digit b && may_follow zeros w && leb now limit) (digits zeros now bs) v filled e in
      let outer = both (is_digit b && may_follow zeros w) (leb now limit) tests.0 in
      let inner = both (is_digit b) (may_follow zeros w) outer.0 in
      let digit = both (leb 48 b) (leb b 57) inner.0 in
      record {
        low = leb-true 48 b digit.0;
        high = leb-true b 57 digit.1;
        may = inner.1;
        fits = leb-true now limit outer.1;
        rest = tests.1;
      }

  pub digits-below :
      (k w : ℕ) (bs : List ℕ) (v : ℕ) (filled : Bool) → w < 10 ^ k → digits zeros w bs ≡ number v filled →
      v < 10 ^ (k + length bs)
  digits-below k w [] v filled below e = rw (add-zero, ← (digits-end-value zeros w v filled e).0) below
  digits-below k w (b ∷ bs) v filled below e =
      let digit = digit-read w b bs v filled e in
      let power : 10 ^ suc k ≡ 10 ^ k * 10 = pow-suc 10 k in
      let more : w * 10 + (b - 48) < 10 ^ suc k = omega (arith, digit.high) in
      rw (add-suc, ← suc-add) (digits-below (suc k) (w * 10 + (b - 48)) bs v filled more digit.rest)

  pub digits-limit :
      (w : ℕ) (bs : List ℕ) (v : ℕ) (filled : Bool) → w ≤ limit → digits zeros w bs ≡ number v filled → v ≤ limit
  digits-limit w [] v filled fits e = rw (← (digits-end-value zeros w v filled e).0) fits
  digits-limit w (b ∷ bs) v filled fits e =
      let digit = digit-read w b bs v filled e in
      digits-limit (w * 10 + (b - 48)) bs v filled digit.fits digit.rest

  -- what is reported
  pub digits-report :
      (w : ℕ) (bs : List ℕ) (v : ℕ) (filled : Bool) → digits zeros w bs ≡ number v filled → filled ≡ zeros
  digits-report w [] v filled e = sym (digits-end-value zeros w v filled e).1
  digits-report w (b ∷ bs) v filled e =
      digits-report (w * 10 + (b - 48)) bs v filled (digit-read w b bs v filled e).rest

-- where zeros do not fill the field, a digit 0 that comes first is the whole number
pub zero-whole : (bs : List ℕ) (v : ℕ) (filled : Bool) → digits false 0 bs ≡ number v filled → (bs ≡ []) × (v ≡ 0)
zero-whole [] v filled e = (refl, sym (digits-end-value false 0 v filled e).0)
zero-whole (x ∷ bs) v filled e = absurd (true≢false (sym (digit-read false 0 x bs v filled e).may))

-- ---- one digit more

pub digit-byte : (d : ℕ) → d < 10 → is_digit (48 + d) ≡ true
digit-byte d h = simp (le-leb 48 (48 + d) (omega arith), le-leb (48 + d) 57 (omega arith))

pub digit-worth : (d : ℕ) → 48 + d - 48 ≡ d
digit-worth d = omega arith

module _ (zeros : Bool) (v d : ℕ) (digit : d < 10) (may : may_follow zeros v ≡ true) (fits : v * 10 + d ≤ limit) where
  pub digits-snoc :
      (w : ℕ) (bs : List ℕ) → digits zeros w bs ≡ number v zeros →
      digits zeros w (bs ++ ((48 + d) ∷ [])) ≡ number (v * 10 + d) zeros
  unfolding digits
  digits-snoc w [] e =
      let same = (same_number w v zeros zeros e).0 in
      rw (same, digit-worth d)
      (simp (le-leb 48 (48 + d) (omega arith), le-leb (48 + d) 57 (omega arith), may, le-leb (v * 10 + d) limit fits))
  digits-snoc w (b ∷ bs) e =
      let now = w * 10 + (b - 48) in
      let tests = passed (is_digit b && may_follow zeros w && leb now limit) (digits zeros now bs) v zeros e in
      rw tests.0 (digits-snoc now bs tests.1)

pub one_more : (k j : ℕ) → suc k + j ≡ k + suc j
one_more k j = suc-add k j ∙ sym (add-suc k j)
