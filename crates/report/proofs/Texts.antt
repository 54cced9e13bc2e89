-- Texts written into a buffer one after another, each where the last one ends, are their concatenation written at its
-- start. What is written so far stays, and what stands past the new text is what stood there at first.
use Prim.Native.Nat.{ℕ, suc, ◌+◌, ◌-◌, ◌*◌, ◌≤◌, ◌<◌}
use native.Mathlib.Numerals.{add-one}
use native.Mathlib.Omega.{arith}
use mathlib.Core.Path.{◌≡◌, refl, ap, sym, ◌∙◌}
use mathlib.Core.Bool.{Bool, true, false, cond}
use mathlib.Core.List.{List, [], ◌∷◌, ◌++◌, append_assoc, append-nil}
use lib.ListN.{length, get_or, take, drop, set, length-append, length-drop}
use lib.Seq.{take_at, drop_at, drop-drop, drop-cons, set_at, append_snoc, take_all, length-take-le}
use borrow.Rule.Slice.PartMut.{put_mid}
use lib.Dec.{leb}
use borrow.Author.Tests.{le-leb, lt-leb}
use Rattle.fields.specs.Field.{field_text}
use Rattle.fields.proofs.Laws.{field-length}
use Rattle.search.specs.Mark.{fields_text, line_feed}
use Rattle.search.proofs.Text.{fields-length, fields-more}
use Rattle.report.specs.Lines.{ring_line, count_line, refused_word, refusal_line, printed, printed_on, PrintedInto}

-- a buffer with a text over its first bytes
abbrev pub onto : List ℕ → List ℕ → List ℕ
onto text buffer = text ++ drop (length text) buffer

-- ---- one text more

-- `out` is the buffer l with a text of `at` bytes over its first bytes
pub record Begins (l text out : List ℕ) (at : ℕ) : Type 0 where
  pub size : length text ≡ at
  pub is : out ≡ onto text l

begins-none : {l : List ℕ} → Begins l [] l 0
begins-none = record { size = refl; is = refl }

module _ {l text out : List ℕ} {at : ℕ} (b : Begins l text out at) where
  pub begins-length : at ≤ length l → length out ≡ length l
  begins-length h =
      let length-onto = length-append text (drop (length text) l) in
      ap length b.is ∙ omega (arith, length-drop (length text) l, b.size)

  pub begins-byte : (byte : ℕ) → at < length l → Begins l (text ++ byte ∷ []) (set out at byte) (at + 1)
  begins-byte byte h =
      let more : length (text ++ byte ∷ []) ≡ suc at = omega (arith, length-append text (byte ∷ []), b.size) in
      let past = drop (suc at) l in
      record {
        size = more ∙ sym (add-one at);
        is = rw (b.is, more, b.size, drop-cons l at 0 h)
            (set_at text (get_or l at 0) past byte at b.size ∙ sym (append_snoc text byte past));
      }

  -- a field is written into the part of `out` that is lent for it
  pub begins-field :
      (columns v : ℕ) {width : ℕ} {last : List ℕ} → width ≡ columns → at + columns ≤ length l →
      last ≡ field_text (length (take width (drop at out))) v →
      Begins l (text ++ field_text columns v) (put_mid at width out last) (at + columns)
  begins-field columns v w h is_field =
      let field = field_text columns v in
      let front : take at out ≡ text = rw b.is (take_at text (drop (length text) l) at b.size) in
      let back : drop at out ≡ drop at l = rw (b.is, b.size) (drop_at text (drop at l) at b.size) in
      let room = length-take-le columns (drop at l) (omega (arith, length-drop at l)) in
      let more : length (text ++ field) ≡ at + columns = rw (length-append, b.size, field-length) in
      record {
        size = more;
        is = rw (is_field, w, back, front, room, more, drop-drop columns at l)
            (sym (append_assoc text field (drop (at + columns) l)));
      }

-- ---- enough room, or not

pub printed-whole :
    (room : ℕ) (line l : List ℕ) → room ≤ length l → (printed room line l ≡ length line) ×
    (printed_on room line l ≡ onto line l)
unfolding printed printed_on
printed-whole room line l h = rw (le-leb room (length l) h) (refl, refl)

-- the lines are written at the start of a buffer with enough room
pub prints :
    {room : ℕ} {line l out : List ℕ} {k : ℕ} → room ≤ length l → Begins l line out k → PrintedInto room line l k out
prints {room} {line} {l} h b =
    let whole = printed-whole room line l h in
    (sym b.size ∙ sym whole.0, b.is ∙ sym whole.1)

pub prints-none : (room : ℕ) (line l : List ℕ) → length l < room → PrintedInto room line l 0 l
unfolding printed printed_on
prints-none room line l h = rw (lt-leb room (length l) h) (refl, refl)

-- in either case the bytes written are within the buffer
pub printed-within :
    (room : ℕ) (line l : List ℕ) {out : List ℕ} {r : ℕ} → (r ≡ printed room line l) × (out ≡ printed_on room line l) →
    r ≤ length out
unfolding printed printed_on
printed-within room line l e = rw (e.0, e.1) (go (leb room (length l)))
  where
    go : (b : Bool) → cond b (length line) 0 ≤ length (cond b (line ++ drop (length line) l) l)
    go true = omega (arith, length-append line (drop (length line) l))
    go false = omega arith

-- ---- the counts

count-text : (x y z : ℕ) → field_text 20 x ++ field_text 20 y ++ field_text 20 z ++ line_feed ≡ count_line x y z
unfolding count_line fields_text
count-text x y z = simp (append_assoc, append-nil)

-- three fields and a line feed, stored one after another
pub counts-put :
    (l : List ℕ) {a b c : List ℕ} (x y z : ℕ) → 61 ≤ length l → a ≡ field_text (length (take 20 l)) x →
    b ≡ field_text (length (take 20 (drop 20 (put_mid 0 20 l a)))) y →
    c ≡ field_text (length (take 20 (drop 40 (put_mid 20 20 (put_mid 0 20 l a) b)))) z →
    Begins l (count_line x y z) (set (put_mid 40 20 (put_mid 20 20 (put_mid 0 20 l a) b) c) 60 10) 61
counts-put l x y z room is_x is_y is-z =
    let first = begins-field (begins-none {l = l}) 20 x refl (omega arith) is_x in
    let second = begins-field first 20 y refl (omega arith) is_y in
    let third = begins-field second 20 z refl (omega arith) is-z in
    rw (count-text x y z) at (begins-byte third 10 (omega arith))

-- ---- a refusal

-- the word, a field and a line feed
pub refusal-put :
    (l : List ℕ) {word a : List ℕ} (k : ℕ) → word ≡ refused_word → 12 ≤ length l →
    a ≡ field_text (length (take 4 (drop 7 (word ++ drop 7 l)))) k →
    Begins l (refusal_line k) (set (put_mid 7 4 (word ++ drop 7 l) a) 11 10) 12
unfolding refusal_line
refusal-put l k is-word room is_number =
    let word : Begins l refused_word _ 7 = record { size = refl; is = ap (λ w. w ++ drop 7 l) is-word } in
    let number = begins-field word 4 k refl (omega arith) is_number in
    begins-byte number 10 (omega arith)

-- ---- a ring

pub ring-length : (atoms : List ℕ) → length (ring_line atoms) ≡ 4 * length atoms + 1
unfolding ring_line
ring-length atoms = omega (arith, length-append (fields_text 4 atoms) line_feed, fields-length 4 atoms)

-- the fields of the first i atoms stand at the start of the buffer, and the rest is as it was
pub record Lining (l atoms out : List ℕ) (i : ℕ) : Type 0 where
  pub room : 4 * length atoms + 1 ≤ length l
  pub within : i ≤ length atoms
  pub size : length out ≡ length l
  pub begins : Begins l (fields_text 4 (take i atoms)) out (4 * i)

pub lining-starts : {l atoms : List ℕ} → 4 * length atoms + 1 ≤ length l → Lining l atoms l 0
unfolding fields_text
lining-starts room = record { room = room; within = omega arith; size = refl; begins = begins-none }

module _ {l atoms out : List ℕ} {i : ℕ} (p : Lining l atoms out i) where
  pub lining-goes-on :
      {v : ℕ} {last : List ℕ} → i < length atoms → v ≡ get_or atoms i 0 →
      last ≡ field_text (length (take (4 * i + 4 - 4 * i) (drop (4 * i) out))) v →
      Lining l atoms (put_mid (4 * i) (4 * i + 4 - 4 * i) out last) (i + 1)
  lining-goes-on h is-atom is_field =
      let room = p.room in
      let width : 4 * i + 4 - 4 * i ≡ 4 = omega arith in
      let next = begins-field p.begins 4 (get_or atoms i 0) width (omega arith) (rw is-atom at is_field) in
      let place : 4 * i + 4 ≡ 4 * (i + 1) = omega arith in
      record {
        room = room;
        within = omega arith;
        size = begins-length next (omega arith);
        begins = rw (fields-more 4 atoms i h) (record { size = next.size ∙ place; is = next.is });
      }

  pub lining_ends :
      length atoms ≤ i →
      PrintedInto (4 * length atoms + 1) (ring_line atoms) l (4 * length atoms + 1) (set out (4 * length atoms) 10)
  unfolding ring_line
  lining_ends h =
      let same : i ≡ length atoms = omega (arith, p.within) in
      let whole = rw (take_all i atoms h, same) at p.begins in
      prints p.room (begins-byte whole 10 (omega (arith, p.room)))
