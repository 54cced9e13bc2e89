-- A number field filled with blanks: its text reads as its value, and what reads as a value after blanks is that text.
-- Both go column by column: a column more on the right is ten times the value and a digit.
use Prim.Native.Nat.{ℕ, zero, suc, ◌+◌, ◌-◌, ◌*◌, ◌/◌, ◌%◌, ◌^◌, ◌≤◌, ◌<◌}
use native.Mathlib.Nat.{pow-suc, pow-zero, add-zero, add-suc, suc-add, eq-or-lt_of_le}
use native.Mathlib.Omega.{arith}
use mathlib.Core.Path.{◌≡◌, refl, ap, sym, ◌∙◌}
use mathlib.Core.Bool.{Bool, true, false, cond}
use mathlib.Core.List.{List, [], ◌∷◌, ◌++◌, append-nil}
use mathlib.Core.Logic.{⊎_elim}
use Rattle.std.specs.Prelude.{None}
use lib.ListN.{length, replicate}
use lib.Seq.{append_snoc}
use lib.Dec.{leb, eqb}
use borrow.Author.Tests.{lt-ltb, ne_eqb, leb-true, eqb-true}
use Rattle.fields.specs.Field.{number, limit, is_digit, digits, after_blanks, column, columns, field_text}
use Rattle.fields.proofs.Digits.{passed, both, digits-end-value, digit-read, zero-whole, digit-byte}
use Rattle.fields.proofs.Digits.{digit-worth, digits-snoc, one_more}

-- ---- the text reads as its value

module _ (v d : ℕ) (digit : d < 10) (some : 0 < v) (fits : v * 10 + d ≤ limit) where
  field-snoc :
      (bs : List ℕ) → after_blanks false bs ≡ number v false →
      after_blanks false (bs ++ ((48 + d) ∷ [])) ≡ number (v * 10 + d) false
  unfolding after_blanks
  field-snoc [] e = let z : ◌≡◌ {A = ℕ} 0 1 = cc in absurd (omega arith)
  field-snoc (b ∷ bs) e = go (field-snoc bs) (eqb b 32) e
    where
      -- by whether b is a blank
      go :
          let longer = bs ++ ((48 + d) ∷ []) in
          (after_blanks false bs ≡ number v false → after_blanks false longer ≡ number (v * 10 + d) false) →
          (t : Bool) →
          cond t (after_blanks false bs) (cond (is_digit b) (digits false (b - 48) bs) None) ≡ number v false →
          cond t (after_blanks false longer) (cond (is_digit b) (digits false (b - 48) longer) None)
          ≡ number (v * 10 + d) false
      go more true e = more e
      go more false e =
          let first = passed (is_digit b) (digits false (b - 48) bs) v false e in
          rw first.0 (digits-snoc false v d digit (lt-ltb 0 v some) fits (b - 48) bs first.1)

abbrev blanks : ℕ → List ℕ
blanks k = replicate k 32

blank-more : (k : ℕ) → blanks k ++ blanks 1 ≡ blanks (suc k)
blank-more zero = refl
blank-more (suc k) = ap (λ l. 32 ∷ l) (blank-more k)

columns-blank : (k : ℕ) → columns k 0 ≡ blanks k
unfolding columns column
columns-blank zero = refl
columns-blank (suc k) = rw (columns-blank k) (blank-more k)

lone-digit : (k d : ℕ) → d < 10 → after_blanks false (blanks k ++ ((48 + d) ∷ [])) ≡ number d false
unfolding after_blanks digits
lone-digit zero d h = simp (ne_eqb (48 + d) 32 (λ e. omega arith), digit-byte d h, digit-worth d)
lone-digit (suc k) d h = lone-digit k d h

-- a last digit after columns
module _ (k v : ℕ) (below : v < 10 ^ suc k) (fits : v ≤ limit) where
  last-digit :
      ((w : ℕ) → 0 < w → w < 10 ^ k → w ≤ limit → after_blanks false (columns k w) ≡ number w false) →
      after_blanks false (columns k (v / 10) ++ ((48 + v % 10) ∷ [])) ≡ number v false
  last-digit front = go (v / 10) refl
    where
      go : (q : ℕ) → v / 10 ≡ q → after_blanks false (columns k (v / 10) ++ ((48 + v % 10) ∷ [])) ≡ number v false
      go zero e =
          let same : v % 10 ≡ v = omega arith in
          rw (e, columns-blank k) (lone-digit k (v % 10) (omega arith) ∙ ap (λ x. number x false) same)
      go (suc q) e =
          let power : 10 ^ suc k ≡ 10 ^ k * 10 = pow-suc 10 k in
          let whole : v / 10 * 10 + v % 10 ≡ v = omega arith in
          let before = front (v / 10) (omega arith) (omega arith) (omega arith) in
          field-snoc (v / 10) (v % 10) (omega arith) (omega arith) (omega arith) (columns k (v / 10)) before
          ∙ ap (λ x. number x false) whole

columns-read : (k v : ℕ) → 0 < v → v < 10 ^ k → v ≤ limit → after_blanks false (columns k v) ≡ number v false
unfolding columns column
columns-read zero v some below fits = absurd (omega (arith, pow-zero 10))
columns-read (suc k) v some below fits = rw (ne_eqb v 0 (λ e. omega arith)) (last-digit k v below fits (columns-read k))

pub text-read : (k v : ℕ) → v < 10 ^ k → v ≤ limit → 0 < k → after_blanks false (field_text k v) ≡ number v false
unfolding field_text
text-read zero v below fits some = absurd (omega arith)
text-read (suc k) v below fits some = last-digit k v below fits (columns-read k)

-- ---- what reads as a value is the text

-- digits that follow columns of a value are columns of the whole value
column-digit : (w b : ℕ) → 0 < w → 48 ≤ b → b ≤ 57 → column (w * 10 + (b - 48)) ≡ b
unfolding column
column-digit w b some low high = rw (ne_eqb (w * 10 + (b - 48)) 0 (λ e. omega arith)) (omega arith)

columns-on :
    (k w b : ℕ) (bs : List ℕ) → 0 < w → 48 ≤ b → b ≤ 57 →
    columns k w ++ (b ∷ bs) ≡ columns (suc k) (w * 10 + (b - 48)) ++ bs
unfolding columns
columns-on k w b bs some low high =
    let tenth : (w * 10 + (b - 48)) / 10 ≡ w = omega arith in
    rw (tenth, column-digit w b some low high) (sym (append_snoc (columns k w) b bs))

digits-text :
    (k w : ℕ) (bs : List ℕ) (v : ℕ) → 0 < w → digits false w bs ≡ number v false →
    (columns k w ++ bs ≡ columns (k + length bs) v) × (0 < v)
unfolding columns
digits-text k w [] v some e = rw (add-zero, ← (digits-end-value false w v false e).0) (append-nil (columns k w), some)
digits-text k w (b ∷ bs) v some e =
    let digit = digit-read false w b bs v false e in
    let start = columns-on k w b bs some digit.low digit.high in
    let more = digits-text (suc k) (w * 10 + (b - 48)) bs v (omega arith) digit.rest in
    (start ∙ more.0 ∙ ap (λ j. columns j v) (one_more k (length bs)), more.1)

columns-text : (k v : ℕ) → 0 < v → columns k v ≡ field_text k v
unfolding columns column field_text
columns-text zero v some = refl
columns-text (suc k) v some = rw (ne_eqb v 0 (λ e. omega arith))

zero-alone :
    (j b : ℕ) (bs : List ℕ) (v : ℕ) → b ≡ 48 → digits false 0 bs ≡ number v false →
    blanks j ++ (b ∷ bs) ≡ field_text (suc (j + length bs)) v
unfolding field_text
zero-alone j b bs v z e =
    let (none, value) = zero-whole bs v false e in
    rw (z, none, value, add-zero j, columns-blank j)

-- any other first digit
columns-first :
    (j b : ℕ) (bs : List ℕ) → 48 < b → b ≤ 57 → columns (suc j) (b - 48) ++ bs ≡ blanks j ++ (b ∷ bs)
unfolding columns column
columns-first j b bs low high =
    let none : (b - 48) / 10 ≡ 0 = omega arith in
    let last : 48 + (b - 48) % 10 ≡ b = omega arith in
    rw (ne_eqb (b - 48) 0 (λ e. omega arith), none, last, columns-blank j) (append_snoc (blanks j) b bs)

digit-first :
    (j b : ℕ) (bs : List ℕ) (v : ℕ) → 48 < b → b ≤ 57 → digits false (b - 48) bs ≡ number v false →
    blanks j ++ (b ∷ bs) ≡ field_text (suc (j + length bs)) v
digit-first j b bs v low high e =
    let text = digits-text (suc j) (b - 48) bs v (omega arith) e in
    sym (columns-first j b bs low high)
    ∙ text.0
    ∙ columns-text (suc j + length bs) v text.1
    ∙ ap (λ k. field_text k v) (suc-add j (length bs))

-- after j blanks
pub after-blanks :
    (j : ℕ) (bs : List ℕ) (v : ℕ) → after_blanks false bs ≡ number v false → blanks j ++ bs ≡
    field_text (j + length bs) v
unfolding after_blanks
after-blanks j [] v e = let z : ◌≡◌ {A = ℕ} 0 1 = cc in absurd (omega arith)
after-blanks j (b ∷ bs) v e = rw add-suc (go (after-blanks (suc j) bs v) (eqb b 32) refl e)
  where
    digit :
        is_digit b ≡ true → digits false (b - 48) bs ≡ number v false →
        blanks j ++ (b ∷ bs) ≡ field_text (suc (j + length bs)) v
    digit t e =
        let range = both (leb 48 b) (leb b 57) t in
        let high = leb-true b 57 range.1 in
        ⊎_elim
        (λ (z : 48 ≡ b). zero-alone j b bs v (sym z) (rw (← z) at e))
        (λ (l : 48 < b). digit-first j b bs v l high e)
        (eq-or-lt_of_le (leb-true 48 b range.0))

    -- by whether b is a blank
    go :
        (after_blanks false bs ≡ number v false → blanks (suc j) ++ bs ≡ field_text (suc j + length bs) v) →
        (t : Bool) → eqb b 32 ≡ t →
        cond t (after_blanks false bs) (cond (is_digit b) (digits false (b - 48) bs) None) ≡ number v false →
        blanks j ++ (b ∷ bs) ≡ field_text (suc (j + length bs)) v
    go more true t e = rw (eqb-true b 32 t) (sym (append_snoc (blanks j) 32 bs) ∙ rw (blank-more j, ← suc-add) (more e))
    go more false t e =
        let tests = passed (is_digit b) (digits false (b - 48) bs) v false e in
        digit tests.0 tests.1
