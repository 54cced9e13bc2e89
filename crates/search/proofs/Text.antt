-- Number fields in a row, and lines of them: their text reads back as their values, and what reads so is that text.
-- Field by field, from the laws of one field; a place is a number of bytes before it.
use Prim.Native.Nat.{ℕ, zero, suc, ◌+◌, ◌*◌, ◌^◌, ◌≤◌, ◌<◌}
use native.Mathlib.Nat.{mul-zero, mul-suc, add-zero}
use native.Mathlib.Numerals.{add-one}
use native.Mathlib.Omega.{arith}
use mathlib.Core.Path.{◌≡◌, refl, ap, ap₂, sym, ◌∙◌}
use mathlib.Core.Bool.{true, false}
use mathlib.Core.List.{List, [], ◌∷◌, ◌++◌, append_assoc, append-nil}
use lib.ListN.{length, get_or, take, drop, length-append, length-drop, take-append-drop}
use lib.Seq.{take_at, drop_at, drop-drop, drop-cons, take-add, take-suc, get_or-drop, length-take-le}
use borrow.Author.Tests.{not-true}
use Rattle.graph.proofs.Below.{apart, all_below-at, all_below-of}
use Rattle.graph.proofs.All.{All, ◌◁◌}
use Rattle.std.specs.Prelude.{Option, Some, None}
use Rattle.fields.specs.declared.Number.{Number}
use Rattle.fields.specs.Field.{limit, field_text, number}
use Rattle.fields.proofs.Laws.{blanks-read-back, read-is-written, field-length}
use Rattle.search.specs.Mark.{fields_text, field_at, blanks_only, field_kept, value_of, value_at, fields_kept, values_at}

-- fields of c columns have c bytes each
pub fields-length : (c : ℕ) (vs : List ℕ) → length (fields_text c vs) ≡ c * length vs
unfolding fields_text
fields-length c [] = sym (mul-zero c)
fields-length c (v ∷ vs) = rw (length-append, field-length, fields-length c vs) (omega (arith, mul-suc c (length vs)))

-- one field more
fields_snoc : (c : ℕ) (vs : List ℕ) (v : ℕ) → fields_text c (vs ++ v ∷ []) ≡ fields_text c vs ++ field_text c v
unfolding fields_text
fields_snoc c [] v = append-nil (field_text c v)
fields_snoc c (x ∷ vs) v = rw (fields_snoc c vs v, append_assoc)

pub fields-more :
    (c : ℕ) (vs : List ℕ) (i : ℕ) → i < length vs →
    fields_text c (take (i + 1) vs) ≡ fields_text c (take i vs) ++ field_text c (get_or vs i 0)
fields-more c vs i h = rw (add-one, take-suc vs i 0 h) (fields_snoc c (take i vs) (get_or vs i 0))

-- the values of k fields of c columns from a place on
abbrev pub values_of : ℕ → List ℕ → ℕ → ℕ → List ℕ
values_of c bytes at zero = []
values_of c bytes at (suc k) = value_at c bytes at ∷ values_of c bytes (at + c) k

pub values-four : (bytes : List ℕ) (at k : ℕ) → values_at bytes at k ≡ values_of 4 bytes at k
unfolding values_at
values-four bytes at zero = refl
values-four bytes at (suc k) = ap (λ l. value_at 4 bytes at ∷ l) (values-four bytes (at + 4) k)

pub values_length : (c : ℕ) (bytes : List ℕ) (at k : ℕ) → length (values_of c bytes at k) ≡ k
values_length c bytes at zero = refl
values_length c bytes at (suc k) = ap suc (values_length c bytes (at + c) k)

-- a value that a field of c columns holds
abbrev pub Fits : ℕ → ℕ → Type 0
Fits c v = (v < 10 ^ c) × (v ≤ limit)

pub small-fits : (v : ℕ) → v ≤ 9999 → Fits 4 v
small-fits v h = (omega arith, omega arith)

-- one place further
place-on : (c at i : ℕ) → at + c * suc i ≡ at + c + c * i
place-on c at i = omega (arith, mul-suc c i)

module _ (c : ℕ) (wide : 1 < c) (bytes : List ℕ) where
  -- what stands past a field
  past-field : (v : ℕ) (rest : List ℕ) (at : ℕ) → drop at bytes ≡ field_text c v ++ rest → drop (at + c) bytes ≡ rest
  past-field v rest at e =
      sym (drop-drop c at bytes) ∙ ap (drop c) e ∙ drop_at (field_text c v) rest c (field-length c v)

  -- where the bytes from a place on begin with the text of values, its fields read as them
  pub fields_read :
      (vs post : List ℕ) (at : ℕ) → All (Fits c) vs → drop at bytes ≡ fields_text c vs ++ post →
      (i : ℕ) → i < length vs → field_at c bytes (at + c * i) ≡ number (get_or vs i 0) false
  unfolding fields_text
  fields_read [] post at fits e i h = absurd (omega arith)
  fields_read (v ∷ vs) post at ((small, most) ◁ fits) e zero h =
      rw (mul-zero, add-zero, e, append_assoc, take_at (field_text c v) (fields_text c vs ++ post) c (field-length c v))
      (blanks-read-back c v small most wide)
  fields_read (v ∷ vs) post at (f ◁ fits) e (suc i) h =
      let past =
      past-field v (fields_text c vs ++ post) at (e ∙ append_assoc (field_text c v) (fields_text c vs) post) in
      rw (place-on c at i) (fields_read vs post (at + c) fits past i (omega arith))

  -- so they are kept, and their values are those values
  pub fields_keep :
      (vs post : List ℕ) (at k : ℕ) → All (Fits c) vs → drop at bytes ≡ fields_text c vs ++ post →
      length vs ≡ k → fields_kept c bytes at k ≡ true
  unfolding fields_kept
  fields_keep vs post at k fits e l =
      all_below-of k (λ i. field_kept c bytes (at + c * i))
      (λ i h. rw (fields_read vs post at fits e i (omega arith)))

  values-by :
      (vs : List ℕ) (at : ℕ) →
      ((i : ℕ) → i < length vs → field_at c bytes (at + c * i) ≡ number (get_or vs i 0) false) →
      values_of c bytes at (length vs) ≡ vs
  values-by [] at f = refl
  values-by (v ∷ vs) at f =
      let here : field_at c bytes at ≡ number v false = rw (mul-zero, add-zero) at (f 0 (omega arith)) in
      let more = values-by vs (at + c) (λ i h. rw (← place-on c at i) (f (suc i) (omega arith))) in
      rw here (ap (λ l. v ∷ l) more)

  pub values-read :
      (vs post : List ℕ) (at k : ℕ) → All (Fits c) vs → drop at bytes ≡ fields_text c vs ++ post →
      length vs ≡ k → values_of c bytes at k ≡ vs
  values-read vs post at k fits e l = rw (← l) (values-by vs at (fields_read vs post at fits e))

-- a number field that zeros do not fill reads as its value
value-of : (x : Option Number) → blanks_only x ≡ true → x ≡ number (value_of x) false
value-of (Some x) e = ap (number x.value) (not-true x.zeros e)
value-of None e = absurd (apart (sym e))

-- the other way round: fields that are kept are the text of their values
module _ (c : ℕ) (bytes : List ℕ) where
  one_written :
      (at : ℕ) → at + c ≤ length bytes → field_kept c bytes at ≡ true →
      take c (drop at bytes) ≡ field_text c (value_at c bytes at)
  one_written at h e =
      let room : c ≤ length (drop at bytes) = rw (length-drop at bytes) (omega arith) in
      read-is-written (take c (drop at bytes)) (value_at c bytes at) false (value-of (field_at c bytes at) e)
      ∙ ap (λ k. field_text k (value_at c bytes at)) (length-take-le c (drop at bytes) room)

  all-written :
      (at k : ℕ) → at + c * k ≤ length bytes → ((i : ℕ) → i < k → field_kept c bytes (at + c * i) ≡ true) →
      take (c * k) (drop at bytes) ≡ fields_text c (values_of c bytes at k)
  unfolding fields_text
  all-written at zero h f = rw mul-zero
  all-written at (suc k) h f =
      let here : field_kept c bytes at ≡ true = rw (mul-zero, add-zero) at (f 0 (omega arith)) in
      let size : c * suc k ≡ c + c * k = omega (arith, mul-suc c k) in
      let more = all-written (at + c) k (omega arith) (λ i j. rw (← place-on c at i) (f (suc i) (omega arith))) in
      let first = one_written at (omega (arith, mul-suc c k)) here in
      rw (size, take-add c (c * k) (drop at bytes), drop-drop c at bytes) (ap₂ (λ (a b : List ℕ). a ++ b) first more)

  pub fields-written :
      (at k : ℕ) → at + c * k ≤ length bytes → fields_kept c bytes at k ≡ true →
      take (c * k) (drop at bytes) ≡ fields_text c (values_of c bytes at k)
  unfolding fields_kept
  fields-written at k h e = all-written at k h (all_below-at k (λ i. field_kept c bytes (at + c * i)) e)

  -- so the bytes from a place on are that text and the bytes past it
  pub fields_split :
      (at k : ℕ) → at + c * k ≤ length bytes → fields_kept c bytes at k ≡ true →
      drop at bytes ≡ fields_text c (values_of c bytes at k) ++ drop (at + c * k) bytes
  fields_split at k h e =
      sym (take-append-drop (c * k) (drop at bytes)) ∙ rw (fields-written at k h e, drop-drop (c * k) at bytes)

-- ---- a line: fields and a line feed

-- What is read where the text of values and a line feed stand at a place, and then the rest
pub record Line (c : ℕ) (bytes : List ℕ) (at k : ℕ) (vs rest : List ℕ) : Type 0 where
  pub kept : fields_kept c bytes at k ≡ true
  pub values : values_of c bytes at k ≡ vs
  pub ends : get_or bytes (at + c * k) 0 ≡ 10
  pub past : (to : ℕ) → to ≡ suc (at + c * k) → drop to bytes ≡ rest

-- what stands past fields
past-fields :
    (c : ℕ) (vs rest bytes : List ℕ) (at k : ℕ) → length vs ≡ k → drop at bytes ≡ fields_text c vs ++ rest →
    drop (at + c * k) bytes ≡ rest
past-fields c vs rest bytes at k l e =
    sym (drop-drop (c * k) at bytes)
    ∙ ap (drop (c * k)) e
    ∙ drop_at (fields_text c vs) rest (c * k) (fields-length c vs ∙ ap (λ j. c * j) l)

pub line_read :
    {c at k : ℕ} {bytes vs rest : List ℕ} → 1 < c → All (Fits c) vs → length vs ≡ k →
    drop at bytes ≡ fields_text c vs ++ 10 ∷ rest → Line c bytes at k vs rest
line_read {c} {at} {k} {bytes} {vs} {rest} wide fits l e =
    let feed = past-fields c vs (10 ∷ rest) bytes at k l e in
    record {
      kept = fields_keep c wide bytes vs (10 ∷ rest) at k fits e l;
      values = values-read c wide bytes vs (10 ∷ rest) at k fits e l;
      ends =
          ap (λ j. get_or bytes j 0) (sym (add-zero (at + c * k)))
          ∙ sym (get_or-drop (at + c * k) bytes 0 0)
          ∙ ap (λ l. get_or l 0 0) feed;
      past = λ to is. rw (is, ← add-one) (sym (drop-drop 1 (at + c * k) bytes) ∙ ap (drop 1) feed);
    }

-- the other way round: fields that are kept and a line feed are a line, and then come the bytes past it
pub line-split :
    (c : ℕ) (bytes : List ℕ) (at k to : ℕ) → to ≡ suc (at + c * k) → to ≤ length bytes →
    fields_kept c bytes at k ≡ true → get_or bytes (at + c * k) 0 ≡ 10 →
    drop at bytes ≡ fields_text c (values_of c bytes at k) ++ 10 ∷ drop to bytes
line-split c bytes at k to is h kept ends =
    fields_split c bytes at k (omega arith) kept
    ∙ ap (λ l. fields_text c (values_of c bytes at k) ++ l)
    (rw (is, ← ends) (drop-cons bytes (at + c * k) 0 (omega arith)))
