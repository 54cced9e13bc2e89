-- One turn of the readers' and the writer's loops, and the ways out, as equations of the definitions.
-- Each says what a definition is at `drop i s`, by the byte that stands at i.
use Prim.Native.Nat.{ℕ, zero, suc, ◌+◌, ◌-◌, ◌*◌, ◌/◌, ◌%◌, ◌≤◌, ◌<◌}
use native.Mathlib.Nat.{le_of_lt}
use native.Mathlib.Numerals.{add-one}
use native.Mathlib.Omega.{arith}
use mathlib.Core.Path.{◌≡◌, refl, ap, sym, ◌∙◌}
use mathlib.Core.Bool.{Bool, true, false, ◌&&◌, cond, true≢false, or-true}
use mathlib.Core.List.{List, [], ◌∷◌, ◌++◌}
use Rattle.std.specs.Prelude.{◌≢◌, Some, None, is_some}
use lib.ListN.{length, get_or, take, drop, set, length-set, drop_of_length-le}
use lib.Seq.{drop-cons, set_split, drop_at, length-take-le, append_snoc}
use lib.Dec.{leb, ltb, eqb}
use borrow.Author.Tests.{lt-ltb, le-leb, lt-leb, leb-true, eq-eqb, ne_eqb}
use Rattle.fields.specs.Field.{number, limit, is_digit, may_follow, digits, after_blanks, column, columns, field_text}
use Rattle.fields.proofs.Digits.{both}

-- ---- the readers

module _ (s : List ℕ) (i : ℕ) (zeros : Bool) where
  -- the byte at i, and the bytes after it
  abbrev byte_at : ℕ
  byte_at = get_or s i 0

  abbrev rest_at : List ℕ
  rest_at = drop (i + 1) s

  pub digits-end : (v : ℕ) → length s ≤ i → digits zeros v (drop i s) ≡ number v zeros
  unfolding digits
  digits-end v end = rw (drop_of_length-le s end)

  pub field_end : length s ≤ i → after_blanks zeros (drop i s) ≡ None
  unfolding after_blanks
  field_end end = rw (drop_of_length-le s end)

  -- some byte stands at i
  module _ (inside : i < length s) where
    digits-turn :
        (v : ℕ) →
        let more = v * 10 + (byte_at - 48) in
        digits zeros v (drop i s)
        ≡ cond (is_digit byte_at && may_follow zeros v && leb more limit) (digits zeros more rest_at) None
    unfolding digits
    digits-turn v = rw (drop-cons s i 0 inside, add-one)

    field-turn :
        after_blanks zeros (drop i s)
        ≡ cond (eqb byte_at 32) (after_blanks zeros rest_at)
        (cond (is_digit byte_at) (digits zeros (byte_at - 48) rest_at) None)
    unfolding after_blanks
    field-turn = rw (drop-cons s i 0 inside, add-one)

    pub digits-stop : (v : ℕ) → is_digit byte_at ≡ false → digits zeros v (drop i s) ≡ None
    digits-stop v other = digits-turn v ∙ simp other

    pub field-blank : byte_at ≡ 32 → after_blanks zeros (drop i s) ≡ after_blanks zeros rest_at
    field-blank blank = field-turn ∙ simp (eq-eqb byte_at 32 blank)

    pub field-stop : byte_at ≢ 32 → is_digit byte_at ≡ false → after_blanks zeros (drop i s) ≡ None
    field-stop black other = field-turn ∙ simp (ne_eqb byte_at 32 black, other)

    -- a digit worth d stands there
    module _ (is : is_digit byte_at ≡ true) {d : ℕ} (worth : d ≡ byte_at - 48) where
      pub field-digit : byte_at ≢ 32 → after_blanks zeros (drop i s) ≡ digits zeros d rest_at
      field-digit other = rw worth (field-turn ∙ simp (ne_eqb byte_at 32 other, is))

      module _ (v : ℕ) where
        digit-turn :
            digits zeros v (drop i s)
            ≡ cond (may_follow zeros v && leb (v * 10 + d) limit) (digits zeros (v * 10 + d) rest_at) None
        digit-turn = rw worth (digits-turn v ∙ simp is)

        pub digits-alone : may_follow zeros v ≡ false → digits zeros v (drop i s) ≡ None
        digits-alone alone = digit-turn ∙ simp alone

        pub digits-full : 999999999999999999 < v → digits zeros v (drop i s) ≡ None
        digits-full full =
            let some : ltb 0 v ≡ true = lt-ltb 0 v (omega arith) in
            digit-turn ∙ simp (some, or-true zeros, lt-leb (v * 10 + d) limit (omega arith))

        pub digits_more :
            may_follow zeros v ≡ true → v ≤ 999999999999999999 →
            digits zeros v (drop i s) ≡ digits zeros (v * 10 + d) rest_at
        digits_more may room =
            let high = leb-true byte_at 57 (both (leb 48 byte_at) (leb byte_at 57) is).1 in
            digit-turn ∙ simp (may, le-leb (v * 10 + d) limit (omega (arith, worth)))

-- ---- the writer

-- of k columns for a value those from i on are written, and v is left for those before
pub record WrittenFrom (k value : ℕ) (out : List ℕ) (i v : ℕ) : Type 0 where
  pub size : length out ≡ k
  pub within : i ≤ length out
  pub text : columns i v ++ drop i out ≡ field_text k value

-- what stands behind a place after a store there
drop-set-here : (l : List ℕ) (i v : ℕ) → i < length l → drop i (set l i v) ≡ v ∷ drop (suc i) l
drop-set-here l i v h =
    rw (set_split l i v h, drop_at (take i l) (v ∷ drop (suc i) l) i (length-take-le i l (le_of_lt h)))

-- the text at the first store, and after each later one
text-begins :
    (out : List ℕ) (value j : ℕ) → suc j ≡ length out →
    columns j (value / 10) ++ drop j (set out j (48 + value % 10)) ≡ field_text (length out) value
unfolding field_text
text-begins out value j e =
    let inside : j < length out = omega arith in
    let past : length out ≤ suc j = omega arith in
    rw (drop-set-here out j (48 + value % 10) inside, drop_of_length-le out past, ← e)

text-goes-on :
    (out : List ℕ) (v j : ℕ) → suc j ≤ length out →
    columns j (v / 10) ++ drop j (set out j (column v)) ≡ columns (suc j) v ++ drop (suc j) out
unfolding columns
text-goes-on out v j h =
    rw (drop-set-here out j (column v) h) (sym (append_snoc (columns j (v / 10)) (column v) (drop (suc j) out)))

text-ends : (out text : List ℕ) (i v : ℕ) → i ≤ 0 → columns i v ++ drop i out ≡ text → out ≡ text
unfolding columns
text-ends out text zero v h e = e
text-ends out text (suc i) v h e = absurd (omega arith)

pub text-none : (out : List ℕ) (value : ℕ) → (1 ≤ length out → ⊥) → out ≡ field_text (length out) value
unfolding field_text
text-none [] value none = refl
text-none (x ∷ xs) value none = absurd (none (omega arith))

-- the last column
pub written_last :
    (out : List ℕ) (value last : ℕ) → suc last ≡ length out →
    let first = set out last (48 + value % 10) in
    WrittenFrom (length first) value first last (value / 10)
written_last out value last e =
    let same = length-set out last (48 + value % 10) in
    record { size = refl; within = omega (arith, same); text = rw same (text-begins out value last e) }

module _ {k value : ℕ} {out : List ℕ} {i v : ℕ} (written : WrittenFrom k value out i v) where
  -- one column more
  pub written-more :
      {byte : ℕ} → 0 < i → byte ≡ column v → WrittenFrom k value (set out (i - 1) byte) (i - 1) (v / 10)
  written-more {byte} more e =
      let same = length-set out (i - 1) byte in
      let within = written.within in
      record {
        size = same ∙ written.size;
        within = omega (arith, same);
        text = rw e (text-goes-on out v (i - 1) (omega arith) ∙ rw up written.text);
      }
    where
      up : suc (i - 1) ≡ i
      up = omega arith

  -- all of them
  pub written_all : i ≤ 0 → out ≡ field_text k value
  written_all end = text-ends out (field_text k value) i v end written.text
