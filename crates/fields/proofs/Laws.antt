-- The laws of a number field: every number that fits has a text in either filling, each reads back as that number
-- with the right report, and an accepted field is one of the two, as the report says. By the laws of each filling.
use Prim.Native.Nat.{ℕ, zero, suc, ◌+◌, ◌-◌, ◌*◌, ◌/◌, ◌%◌, ◌^◌, ◌≤◌, ◌<◌}
use native.Mathlib.Nat.{pow-suc, pow-le-pow_right, one-le-pow, zero-add}
use native.Mathlib.Numerals.{one-add}
use native.Mathlib.Decide.{dec_lt}
use native.Mathlib.Omega.{arith}
use mathlib.Core.Path.{◌≡◌, refl, ap, sym, ◌∙◌}
use mathlib.Core.Bool.{Bool, true, false, cond, true≢false}
use mathlib.Core.List.{List, [], ◌∷◌, append-nil}
use mathlib.Core.Logic.{inl, inr}
use Rattle.std.specs.Prelude.{Option, Some, None}
use lib.ListN.{length, take, drop, length-append, length-take}
use lib.Dec.{leb, ltb, eqb}
use borrow.Author.Tests.{lt-ltb, le-ltb, leb-true, eqb-true}
use Rattle.fields.specs.declared.Number.{Number}
use Rattle.fields.specs.Field.{number, limit, is_digit, digits, after_blanks, zero_first, read_field, columns}
use Rattle.fields.specs.Field.{field_text, zero_text, filled_text, is_value, value_of, value_at, Refilled}
use Rattle.fields.proofs.Digits.{passed, both, digits-below, digits-limit, digits-report, zero-whole}
use Rattle.fields.proofs.Blanks.{text-read, after-blanks}
use Rattle.fields.proofs.Zeros.{zeros-digits, zeros-lead, zeros-written, columns-whole, texts-agree}
use Rattle.fields.proofs.Zeros.{columns-report}

-- ---- what an accepted field tells

-- what a field that was read as a value tells
record Read (zeros : Bool) (bs : List ℕ) (v : ℕ) (filled : Bool) : Type 0 where
  report : filled ≡ zeros
  below : v < 10 ^ length bs
  most : v ≤ limit

blanks-read :
    (zeros : Bool) (bs : List ℕ) (v : ℕ) (filled : Bool) → after_blanks zeros bs ≡ number v filled →
    Read zeros bs v filled
unfolding after_blanks
blanks-read zeros [] v filled e = let z : ◌≡◌ {A = ℕ} 0 1 = cc in absurd (omega arith)
blanks-read zeros (b ∷ bs) v filled e = go (blanks-read zeros bs v filled) (eqb b 32) e
  where
    power : 10 ^ suc (length bs) ≡ 10 ^ length bs * 10
    power = pow-suc 10 (length bs)

    -- by whether b is a blank
    go :
        (after_blanks zeros bs ≡ number v filled → Read zeros bs v filled) →
        (t : Bool) → cond t (after_blanks zeros bs) (cond (is_digit b) (digits zeros (b - 48) bs) None) ≡
        number v filled →
        Read zeros (b ∷ bs) v filled
    go more true e =
        let read = more e in
        record { report = read.report; below = omega (arith, power, read.below); most = read.most }
    go more false e =
        let (t, rest) = passed (is_digit b) (digits zeros (b - 48) bs) v filled e in
        let high = leb-true b 57 (both (leb 48 b) (leb b 57) t).1 in
        record {
          report = digits-report zeros (b - 48) bs v filled rest;
          below = rw (one-add (length bs)) at (digits-below zeros 1 (b - 48) bs v filled (omega arith) rest);
          most = digits-limit zeros (b - 48) bs v filled (omega arith) rest;
        }

-- The value of blanks and digits fits their columns
pub blanks-fit :
    (zeros : Bool) (bs : List ℕ) (v : ℕ) (filled : Bool) → after_blanks zeros bs ≡ number v filled → v < 10 ^ length bs
blanks-fit zeros bs v filled e = (blanks-read zeros bs v filled e).below

-- a field that begins with a digit 0
first_byte : (bs : List ℕ) → zero_first bs ≡ true → (rest : List ℕ) × (bs ≡ 48 ∷ rest)
first_byte [] e = absurd (true≢false (sym e))
first_byte (b ∷ bs) e = (bs, rw (eqb-true b 48 e))

zero-begins : (rest : List ℕ) → read_field (48 ∷ rest) ≡ digits true 0 rest
unfolding read_field after_blanks
zero-begins rest = refl

module _ (bs : List ℕ) (v : ℕ) (zeros : Bool) (reads : read_field bs ≡ number v zeros) where
  told : Read (zero_first bs) bs v zeros
  unfolding read_field
  told = blanks-read (zero_first bs) bs v zeros reads

  -- The report is what the request says: whether a digit 0 stands in the first column
  pub report-means : zeros ≡ zero_first bs
  report-means = told.report

  -- The value fits the columns and keeps to the limit
  pub read_fits : (v < 10 ^ length bs) × (v ≤ limit)
  read_fits = (told.below, told.most)

  -- An accepted field is one of the two texts of its value, and the report says which
  pub read-is-written : bs ≡ filled_text zeros (length bs) v
  unfolding read_field
  read-is-written = go zeros (sym report-means) reads
    where
      go :
          (filled : Bool) → zero_first bs ≡ filled → read_field bs ≡ number v filled →
          bs ≡ filled_text filled (length bs) v
      go false first e =
          after-blanks 0 bs v (rw first at e) ∙ ap (λ k. field_text k v) (zero-add (length bs))
      go true first e =
          let (rest, is) = first_byte bs first in
          let read = sym (zero-begins rest) ∙ ap read_field (sym is) ∙ e in
          is ∙ zeros-written rest v read ∙ ap (λ (l : List ℕ). zero_text (length l) v) (sym is)

-- The value of a field fits its columns and keeps to the limit, as the 0 of a bad one does
pub value-bounds : (bs : List ℕ) → let v = value_of (read_field bs) in (v < 10 ^ length bs) × (v ≤ limit)
value-bounds bs = go (read_field bs) refl
  where
    go : (x : Option Number) → read_field bs ≡ x → (value_of x < 10 ^ length bs) × (value_of x ≤ limit)
    go (Some x) e = read_fits bs x.value x.zeros e
    go None e = (one-le-pow (length bs) 10 (omega arith), omega arith)

-- within bytes of any length
pub value-fits : (c : ℕ) (bytes : List ℕ) (at : ℕ) → value_at c bytes at < 10 ^ c
value-fits c bytes at =
    let field = take c (drop at bytes) in
    let short : length field ≤ c = rw (length-take c (drop at bytes)) (omega arith) in
    let most : 10 ^ length field ≤ 10 ^ c = pow-le-pow_right (omega arith) short in
    omega (arith, (value-bounds field).0)

-- ---- each text of a number reads back

-- A field that was accepted when blanks alone could fill one has the same value
pub as_before :
    (bs : List ℕ) (v : ℕ) (filled : Bool) → after_blanks false bs ≡ number v filled →
    read_field bs ≡ number v (zero_first bs)
unfolding read_field
as_before bs v filled e = go (zero_first bs) refl
  where
    go : (zeros : Bool) → zero_first bs ≡ zeros → read_field bs ≡ number v zeros
    go false first = rw first (e ∙ ap (number v) (blanks-read false bs v filled e).report)
    go true first =
        let (rest, is) = first_byte bs first in
        let alone : digits false 0 rest ≡ number v filled = unfold after_blanks in (rw is at e) in
        let (none, value) = zero-whole rest v filled alone in
        rw (is, none, value) (zero-begins [] ∙ unfold digits in refl)

-- Either text of a number that fits reads back as that number, and the report says what its first column holds
pub written-reads-back :
    (zeros : Bool) (k v : ℕ) → v < 10 ^ k → v ≤ limit → 0 < k →
    let text = filled_text zeros k v in
    read_field text ≡ number v (zero_first text)
written-reads-back false k v below fits some = as_before (field_text k v) v false (text-read k v below fits some)
written-reads-back true zero v below fits some = absurd (omega arith)
written-reads-back true (suc k) v below fits some = go (dec_lt v (10 ^ k))
  where
    go : Dec (v < 10 ^ k) → read_field (zero_text (suc k) v) ≡ number v (zero_first (zero_text (suc k) v))
    go (yes room) = rw (zeros-lead k v room) (zero-begins (zero_text k v) ∙ zeros-digits k v room fits)
    go (no full) =
        let read = text-read (suc k) v below fits some in
        rw (texts-agree k v (omega arith)) (as_before (field_text (suc k) v) v false read)

-- In the text filled with zeros that is a 0 exactly where the number leaves a column
pub zeros-report : (k v : ℕ) → v < 10 ^ suc k → zero_first (zero_text (suc k) v) ≡ ltb v (10 ^ k)
zeros-report k v below = go (dec_lt v (10 ^ k))
  where
    go : Dec (v < 10 ^ k) → zero_first (zero_text (suc k) v) ≡ ltb v (10 ^ k)
    go (yes room) = rw (zeros-lead k v room, lt-ltb v (10 ^ k) room)
    go (no full) =
        let most : 10 ^ k ≤ v = omega arith in
        ap zero_first (sym (append-nil (columns (suc k) v) ∙ columns-whole k v most))
        ∙ columns-report k v [] below
        ∙ sym (le-ltb v (10 ^ k) most)

-- In the text filled with blanks it is none where there is more than one column
pub blanks-report : (k v : ℕ) → v < 10 ^ k → 1 < k → zero_first (field_text k v) ≡ false
unfolding field_text
blanks-report zero v below wide = absurd (omega arith)
blanks-report (suc zero) v below wide = absurd (omega arith)
blanks-report (suc (suc k)) v below wide =
    let power : 10 ^ suc (suc k) ≡ 10 ^ suc k * 10 = pow-suc 10 (suc k) in
    columns-report k (v / 10) ((48 + v % 10) ∷ []) (omega arith)

-- so each reads back with the right report: zeros fill the one where the number leaves a column,
-- and never the other where there is more than one
pub zeros-read-back :
    (k v : ℕ) → v < 10 ^ suc k → v ≤ limit → read_field (zero_text (suc k) v) ≡ number v (ltb v (10 ^ k))
zeros-read-back k v below fits =
    written-reads-back true (suc k) v below fits (omega arith) ∙ ap (number v) (zeros-report k v below)

pub blanks-read-back : (k v : ℕ) → v < 10 ^ k → v ≤ limit → 1 < k → read_field (field_text k v) ≡ number v false
blanks-read-back k v below fits wide =
    written-reads-back false k v below fits (omega arith) ∙ ap (number v) (blanks-report k v below wide)

-- Fields that differ in filling only hold the same number, or none of them does
pub refilled_same :
    (k : ℕ) (a b : List ℕ) → 0 < k → Refilled k a b →
    (is_value (read_field a) ≡ is_value (read_field b)) × (value_of (read_field a) ≡ value_of (read_field b))
refilled_same k a b some (inl e) = (rw e, rw e)
refilled_same k a b some (inr same) =
    let left = ap read_field same.left ∙ back same.zeros_left in
    let right = ap read_field same.right ∙ back same.zeros_right in
    (ap is_value left ∙ sym (ap is_value right), ap value_of left ∙ sym (ap value_of right))
  where
    back :
        (zeros : Bool) →
        let text = filled_text zeros k same.value in
        read_field text ≡ number same.value (zero_first text)
    back zeros = written-reads-back zeros k same.value same.below same.most some

-- ---- a field has as many bytes as columns

columns-length : (k v : ℕ) → length (columns k v) ≡ k
unfolding columns
columns-length zero v = refl
columns-length (suc k) v = simp (length-append, columns-length k) (omega arith)

pub field-length : (k v : ℕ) → length (field_text k v) ≡ k
unfolding field_text
field-length zero v = refl
field-length (suc k) v = simp (length-append, columns-length k) (omega arith)

pub filled-length : (zeros : Bool) (k v : ℕ) → length (filled_text zeros k v) ≡ k
unfolding zero_text
filled-length false k v = field-length k v
filled-length true zero v = refl
filled-length true (suc k) v = simp (length-append, filled-length true k) (omega arith)
