-- A number field filled with zeros: its text is digits worth the number, and digits after a first 0 are that text.
-- Column by column; where the number fills its columns the text is the one filled with blanks.
use Prim.Native.Nat.{ℕ, zero, suc, ◌+◌, ◌-◌, ◌*◌, ◌/◌, ◌%◌, ◌^◌, ◌≤◌, ◌<◌}
use native.Mathlib.Nat.{pow-suc, pow-zero, add-zero, zero-add}
use native.Mathlib.Omega.{arith}
use mathlib.Core.Path.{◌≡◌, refl, ap, sym, ◌∙◌}
use mathlib.Core.Bool.{true, false}
use mathlib.Core.List.{List, [], ◌∷◌, ◌++◌, append-nil}
use lib.ListN.{length}
use lib.Seq.{append_snoc}
use borrow.Author.Tests.{ne_eqb}
use Rattle.fields.specs.Field.{number, limit, digits, zero_first, column, columns, field_text, zero_text}
use Rattle.fields.proofs.Digits.{digits-end-value, digit-read, digits-below, digits-snoc, one_more}

-- the text filled with zeros is digits worth its number
pub zeros-digits : (k v : ℕ) → v < 10 ^ k → v ≤ limit → digits true 0 (zero_text k v) ≡ number v true
unfolding zero_text digits
zeros-digits zero v below fits =
    let none : 0 ≡ v = omega (arith, pow-zero 10) in
    ap (λ x. number x true) none
zeros-digits (suc k) v below fits =
    let power : 10 ^ suc k ≡ 10 ^ k * 10 = pow-suc 10 k in
    let whole : v / 10 * 10 + v % 10 ≡ v = omega arith in
    let front = zeros-digits k (v / 10) (omega arith) (omega arith) in
    digits-snoc true (v / 10) (v % 10) (omega arith) refl (omega arith) 0 (zero_text k (v / 10)) front
    ∙ ap (λ x. number x true) whole

-- digits that follow a text are the text of the whole value
zeros-on :
    (k w b : ℕ) (bs : List ℕ) → 48 ≤ b → b ≤ 57 →
    zero_text k w ++ (b ∷ bs) ≡ zero_text (suc k) (w * 10 + (b - 48)) ++ bs
unfolding zero_text
zeros-on k w b bs low high =
    let tenth : (w * 10 + (b - 48)) / 10 ≡ w = omega arith in
    let last : 48 + (w * 10 + (b - 48)) % 10 ≡ b = omega arith in
    rw (tenth, last) (sym (append_snoc (zero_text k w) b bs))

zeros-text :
    (k w : ℕ) (bs : List ℕ) (v : ℕ) → digits true w bs ≡ number v true → zero_text k w ++ bs ≡
    zero_text (k + length bs) v
zeros-text k w [] v e = rw (add-zero, ← (digits-end-value true w v true e).0) (append-nil (zero_text k w))
zeros-text k w (b ∷ bs) v e =
    let digit = digit-read true w b bs v true e in
    zeros-on k w b bs digit.low digit.high
    ∙ zeros-text (suc k) (w * 10 + (b - 48)) bs v digit.rest
    ∙ ap (λ j. zero_text j v) (one_more k (length bs))

-- a column more than the number needs holds a digit 0
pub zeros-lead : (k v : ℕ) → v < 10 ^ k → zero_text (suc k) v ≡ 48 ∷ zero_text k v
unfolding zero_text
zeros-lead zero v below = let none : v ≡ 0 = omega (arith, pow-zero 10) in rw none
zeros-lead (suc k) v below =
    let power : 10 ^ suc k ≡ 10 ^ k * 10 = pow-suc 10 k in
    ap (λ l. l ++ ((48 + v % 10) ∷ [])) (zeros-lead k (v / 10) (omega arith))

pub zeros-written : (bs : List ℕ) (v : ℕ) → digits true 0 bs ≡ number v true → 48 ∷ bs ≡ zero_text (suc (length bs)) v
unfolding zero_text
zeros-written bs v e =
    let below = rw (zero-add (length bs)) at (digits-below true 0 0 bs v true (omega (arith, pow-zero 10)) e) in
    let text = rw (zero-add (length bs)) at (zeros-text 0 0 bs v e) in
    sym (zeros-lead (length bs) v below ∙ ap (λ l. 48 ∷ l) (sym text))

-- ---- a number that fills its columns has one text

ten-some : (k : ℕ) → 0 < 10 ^ k
ten-some zero = omega (arith, pow-zero 10)
ten-some (suc k) = omega (arith, ten-some k, pow-suc 10 k)

pub columns-whole : (k v : ℕ) → 10 ^ k ≤ v → columns (suc k) v ≡ zero_text (suc k) v
unfolding columns column zero_text
columns-whole zero v most = rw (ne_eqb v 0 (λ e. omega (arith, pow-zero 10)))
columns-whole (suc k) v most =
    let power : 10 ^ suc k ≡ 10 ^ k * 10 = pow-suc 10 k in
    let some = ten-some k in
    rw (ne_eqb v 0 (λ e. omega arith), columns-whole k (v / 10) (omega arith))

pub texts-agree : (k v : ℕ) → 10 ^ k ≤ v → zero_text (suc k) v ≡ field_text (suc k) v
unfolding field_text zero_text columns
texts-agree zero v most = refl
texts-agree (suc k) v most =
    let power : 10 ^ suc k ≡ 10 ^ k * 10 = pow-suc 10 k in
    ap (λ l. l ++ ((48 + v % 10) ∷ [])) (sym (columns-whole k (v / 10) (omega arith)))

-- ---- what the first column of each text holds

-- the first column of a number holds no 0
no_zero : (v : ℕ) → v < 10 → column v ≡ 48 → ⊥
unfolding column
no_zero zero h e = omega arith
no_zero (suc v) h e =
    let digit : 48 + suc v % 10 ≡ 48 = rw (ne_eqb (suc v) 0 (λ z. omega arith)) at e in
    omega arith

pub columns-report : (k v : ℕ) (rest : List ℕ) → v < 10 ^ suc k → zero_first (columns (suc k) v ++ rest) ≡ false
unfolding columns
columns-report zero v rest below = ne_eqb (column v) 48 (no_zero v (omega (arith, pow-suc 10 0, pow-zero 10)))
columns-report (suc k) v rest below =
    let power : 10 ^ suc (suc k) ≡ 10 ^ suc k * 10 = pow-suc 10 (suc k) in
    ap zero_first (append_snoc (columns (suc k) (v / 10)) (column v) rest)
    ∙ columns-report k (v / 10) (column v ∷ rest) (omega arith)
