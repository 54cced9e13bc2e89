-- The lines of joined records, and the loop that prints them: what is printed so far and the lines of the bytes still
-- ahead are the lines of all. Each turn takes one record off the front of the bytes and writes its line where the last
-- one ends.
use Prim.Native.Nat.{ℕ, zero, suc, ◌+◌, ◌-◌, ◌*◌, ◌≤◌, ◌<◌}
use native.Mathlib.Omega.{arith}
use mathlib.Core.Path.{◌≡◌, refl, ap, sym, ◌∙◌}
use mathlib.Core.List.{List, [], ◌∷◌, ◌++◌, append_assoc, append-nil}
use lib.ListN.{length, take, drop, length-append, length-drop, take-append-drop, drop_of_length-le}
use lib.Seq.{take_at, drop_at, drop-drop, take_all, take-append_seam, drop-append_seam, length-take-le}
use borrow.Author.Tests.{le-leb, lt-leb}
use borrow.Rule.Slice.PartMut.{put_mid}
use Rattle.enumeration.specs.Run.{record_of}
use Rattle.enumeration.specs.Trials.{records}
use Rattle.report.specs.Lines.{ring_line, lines_of_first, ring_lines, lines_of, PrintedInto}
use Rattle.report.proofs.Texts.{onto, printed-whole, prints, ring-length}

-- ---- the lines of records

-- as many records as there are bytes are all of them
all_lines :
    (f g : ℕ) (bytes : List ℕ) → length bytes ≤ f → length bytes ≤ g → lines_of_first f bytes ≡ lines_of_first g bytes
unfolding lines_of_first
all_lines zero zero bytes p q = refl
all_lines zero (suc g) [] p q = refl
all_lines zero (suc g) (k ∷ rest) p q = absurd (omega arith)
all_lines (suc f) zero [] p q = refl
all_lines (suc f) zero (k ∷ rest) p q = absurd (omega arith)
all_lines (suc f) (suc g) [] p q = refl
all_lines (suc f) (suc g) (k ∷ rest) p q =
    let less = length-drop k rest in
    rw (all_lines f g (drop k rest) (omega arith) (omega arith))

lines-record :
    (k : ℕ) (rest : List ℕ) → k ≤ length rest → ring_lines (k ∷ rest) ≡ ring_line (take k rest) ++
    ring_lines (drop k rest)
unfolding ring_lines lines_of_first
lines-record k rest h =
    let enough : length (drop k rest) ≤ length rest = omega (arith, length-drop k rest) in
    rw (le-leb k (length rest) h, all_lines (length rest) (length (drop k rest)) (drop k rest) enough (omega arith))

lines_cut : (k : ℕ) (rest : List ℕ) → length rest < k → ring_lines (k ∷ rest) ≡ []
unfolding ring_lines lines_of_first
lines_cut k rest h = rw (lt-leb k (length rest) h)

lines_none : ring_lines [] ≡ []
unfolding ring_lines lines_of_first
lines_none = refl

no-bytes : (bytes : List ℕ) → length bytes ≡ 0 → ring_lines bytes ≡ []
no-bytes [] e = lines_none
no-bytes (k ∷ rest) e = absurd (omega arith)

-- The records of rings before other bytes: their lines, in order, before the lines of those bytes
pub lines-joined :
    (ws : List (List ℕ)) (bytes : List ℕ) → ring_lines (records ws ++ bytes) ≡ lines_of ws ++ ring_lines bytes
unfolding records record_of lines_of
lines-joined [] bytes = refl
lines-joined (w ∷ ws) bytes =
    let rest : List ℕ = records ws ++ bytes in
    ap (λ (l : List ℕ). ring_lines (length w ∷ l)) (append_assoc w (records ws) bytes)
    ∙ lines-record (length w) (w ++ rest) (omega (arith, length-append w rest))
    ∙ rw (take-append_seam w rest, drop-append_seam w rest, lines-joined ws bytes)
    (sym (append_assoc (ring_line w) (lines_of ws) (ring_lines bytes)))

-- The records of rings give their lines in order
pub lines-of-records : (ws : List (List ℕ)) → ring_lines (records ws) ≡ lines_of ws
lines-of-records ws = rw (append-nil (records ws), lines_none, append-nil (lines_of ws)) at (lines-joined ws [])

-- ---- printing them

-- the lines of the records before the bytes `left` fill the first `used` bytes of the text
pub record Printing (rs before text : List ℕ) (used : ℕ) (left : List ℕ) : Type 0 where
  pub room : 4 * length rs ≤ length before
  pub short : used + 4 * length left ≤ 4 * length rs
  pub size : length text ≡ length before
  pub ahead : ring_lines rs ≡ take used text ++ ring_lines left
  pub past : drop used text ≡ drop used before

pub printing-starts : {rs before : List ℕ} → 4 * length rs ≤ length before → Printing rs before before 0 rs
printing-starts room = record { room = room; short = omega arith; size = refl; ahead = refl; past = refl }

module _ {rs before text : List ℕ} {used : ℕ} {left : List ℕ} (p : Printing rs before text used left) where
  -- the lines so far are within the text
  used-within : used ≤ length text
  used-within = omega (arith, p.room, p.short, p.size)

  -- no line is ahead
  printing-ends : ring_lines left ≡ [] → PrintedInto (4 * length rs) (ring_lines rs) before used text
  printing-ends none =
      let all : ring_lines rs ≡ take used text = p.ahead ∙ rw (none, append-nil (take used text)) in
      let size = ap length all ∙ length-take-le used text used-within in
      prints p.room
      (record { size = size; is = sym (take-append-drop used text) ∙ rw (p.past, size, all) })

  pub printed-all : length left ≡ 0 → PrintedInto (4 * length rs) (ring_lines rs) before used text
  printed-all none = printing-ends (no-bytes left none)

  -- a record that is cut off
  pub printed-cut :
      {k : ℕ} {rest : List ℕ} → left ≡ k ∷ rest → length rest < k →
      PrintedInto (4 * length rs) (ring_lines rs) before used text
  printed-cut {k} {rest} is h = printing-ends (rw is (lines_cut k rest h))

  -- a line of so many bytes is written at the start of what stands past `used`
  line_on :
      (line : List ℕ) {part next : List ℕ} → used + length line + 4 * length next ≤ 4 * length rs →
      ring_lines left ≡ line ++ ring_lines next → part ≡ onto line (drop used text) →
      Printing rs before (put_mid used (length text - used) text part) (used + length line) next
  line_on line {part} {next} short is-next is-part =
      let front = take used text ++ line in
      let rest = drop (length line) (drop used text) in
      let least : length (drop used text) ≤ length text - used = omega (arith, length-drop used text) in
      let none = drop_of_length-le (drop used text) least in
      let joined = sym (append_assoc (take used text) line rest) in
      let bytes : put_mid used (length text - used) text part ≡ front ++ rest = rw (none, append-nil, is-part) joined in
      let size : length front ≡ used + length line = rw (length-append, length-take-le used text used-within) in
      let past = length-drop (length line) (drop used text) in
      record {
        room = p.room;
        short = short;
        size =
            ap length bytes ∙
            rw (length-append, size, past, length-drop used text) (omega (arith, p.room, p.size));
        ahead =
            p.ahead ∙ rw (is-next, bytes, take_at front rest (used + length line) size)
            (sym (append_assoc (take used text) line (ring_lines next)));
        past = rw (bytes, drop_at front rest (used + length line) size, p.past) (drop-drop (length line) used before);
      }

  -- the ring of a record, and the bytes past it
  module _
      {k : ℕ} {tail ring next : List ℕ} (is : left ≡ k ∷ tail) (whole : k ≤ length tail) (is-ring : ring ≡ take k tail)
      (is-next : next ≡ drop k tail)
    where
      ring-size : length ring ≡ k
      ring-size = ap length is-ring ∙ length-take-le k tail whole

      next-line : ring_lines left ≡ ring_line ring ++ ring_lines next
      next-line = rw (is, is-ring, is-next) (lines-record k tail whole)

      -- the part of the text that is lent is all past `used`, and has room for the line
      part-is : take (length text - used) (drop used text) ≡ drop used text
      part-is = take_all (length text - used) (drop used text) (omega (arith, length-drop used text))

      more : length left ≡ suc (length tail)
      more = ap length is

      enough : 4 * length ring + 1 ≤ length (drop used text)
      enough = omega (arith, ring-size, length-drop used text, p.room, p.short, p.size, more)

      pub printing-goes-on :
          {part : List ℕ} {r : ℕ} →
          PrintedInto (4 * length ring + 1) (ring_line ring) (take (length text - used) (drop used text)) r part →
          Printing rs before (put_mid used (length text - used) text part) (used + r) next
      printing-goes-on (is-size, is-part) =
          let line = printed-whole (4 * length ring + 1) (ring_line ring) (drop used text) enough in
          let size : length (ring_line ring) ≡ 4 * k + 1 = rw (ring-length, ring-size) in
          let put = rw (part-is, line.1) at is-part in
          let past = ap length is-next ∙ length-drop k tail in
          rw (is-size, part-is, line.0)
          (line_on (ring_line ring) (omega (arith, size, p.short, more, past)) next-line put)
