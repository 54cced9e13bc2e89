-- Words and numbers in the columns of a line that stands between two places: those of the bytes there.
-- A part of a line that the line reaches is that part of the bytes.
use Prim.Native.Nat.{ℕ, suc, ◌+◌, ◌-◌, ◌≤◌, ◌<◌}
use native.Mathlib.Nat.{zero-add}
use native.Mathlib.Omega.{arith}
use mathlib.Core.Path.{◌≡◌, ap, sym, ◌∙◌}
use mathlib.Core.Bool.{true, ◌&&◌}
use mathlib.Core.List.{List, [], ◌∷◌}
use lib.ListN.{length, get_or, take, drop, length-drop}
use lib.Dec.{eqb}
use lib.Seq.{get_or-drop, get_or-take, length-take-le, ext_get_or, drop-cons}
use lib.Pointwise.{pointwise}
use borrow.Author.Tests.{eq-eqb, eqb-true}
use Rattle.std.specs.List.{starts_with}
use Rattle.std.specs.Cmp.Lexicographic.{same_text, other_text}
use Rattle.graph.proofs.Below.{true_of, and_parts, and_both, same_test, all_below-at, all_below-of}
use Rattle.graph.proofs.Places.{all_same}
use Rattle.molfile.specs.Lines.{stands}
use Rattle.molfile.specs.Parts.{between}

-- ---- a word in the bytes, byte by byte

byte_at : (s : List ℕ) (at k : ℕ) → get_or (drop at s) (0 + k) 0 ≡ get_or s (at + k) 0
byte_at s at k = rw zero-add (get_or-drop at s k 0)

-- a text is as long as a word that stands in it, just when it is the word
module _ (word line : List ℕ) where
  word-here : length line ≡ length word → stands word 0 line ≡ true → line ≡ word
  unfolding stands
  word-here size all =
      ext_get_or 0 line word size (λ i h. eqb-true (get_or line i 0) (get_or word i 0) (byte i (omega arith)))
    where
      byte : (i : ℕ) → i < length word → eqb (get_or line i 0) (get_or word i 0) ≡ true
      byte i h =
          let here = all_below-at (length word) (λ k. eqb (get_or line (0 + k) 0) (get_or word k 0)) all i h in
          rw zero-add at here

  word-itself : line ≡ word → stands word 0 line ≡ true
  unfolding stands
  word-itself same =
      all_below-of (length word) _ (λ k h. eq-eqb (get_or line (0 + k) 0) (get_or word k 0) (rw (zero-add, same)))

  texts-same : line ≡ word → pointwise eqb line word ≡ true
  texts-same same = true_of (pointwise eqb line word) (λ e. other_text line word (sym e) same)

  -- so the test of two texts looks for it
  pub word-is : pointwise eqb line word ≡ (eqb (length line) (length word) && stands word 0 line)
  word-is =
      same_test _ _
      (λ e. let same = same_text line word (sym e) in
      and_both _ _ (eq-eqb (length line) (length word) (ap length same)) (word-itself same))
      (λ e. let parts = and_parts _ _ e in texts-same (word-here (eqb-true _ _ parts.0) parts.1))

-- and so does the test of what a text starts with
pub word-starts :
    (word s : List ℕ) → length word ≤ length s → starts_with eqb s word ≡ stands word 0 s
unfolding stands
word-starts word s room = same_test _ _ there back
  where
    part : List ℕ
    part = take (length word) s

    size : length part ≡ length word
    size = length-take-le (length word) s room

    same_part : stands word 0 part ≡ stands word 0 s
    same_part =
        all_same (length word) _ _
        (λ k h.
        ap (λ b. eqb b (get_or word k 0))
        (rw zero-add (get_or-take (length word) s k 0 h)))

    there : pointwise eqb word part ≡ true → stands word 0 s ≡ true
    there e = sym same_part ∙ word-itself word part (sym (same_text word part (sym e)))

    back : stands word 0 s ≡ true → pointwise eqb word part ≡ true
    back e =
        true_of (pointwise eqb word part)
        (λ f. other_text word part (sym f) (sym (word-here word part size (same_part ∙ e))))

-- ---- columns of a line

module _ (s : List ℕ) (from end : ℕ) (low : from ≤ end) (high : end ≤ length s) where
  pub line-length : length (between s from end) ≡ end - from
  line-length = let size = length-drop from s in length-take-le (end - from) (drop from s) (omega arith)

  column : (j : ℕ) → j < end - from → get_or (between s from end) j 0 ≡ get_or s (from + j) 0
  column j h = get_or-take (end - from) (drop from s) j 0 h ∙ get_or-drop from s j 0

  -- a word in its columns
  pub word_in :
      (word : List ℕ) (at : ℕ) → at + length word ≤ end - from →
      stands word at (between s from end) ≡ stands word 0 (drop (from + at) s)
  unfolding stands
  word_in word at room = all_same (length word) _ _ here
    where
      here :
          (k : ℕ) → k < length word →
          eqb (get_or (between s from end) (at + k) 0) (get_or word k 0) ≡
          eqb (get_or (drop (from + at) s) (0 + k) 0) (get_or word k 0)
      here k h =
          let place : from + (at + k) ≡ from + at + k = omega arith in
          ap (λ b. eqb b (get_or word k 0)) (column (at + k) (omega arith) ∙ rw place (sym (byte_at s (from + at) k)))

  -- a part of it
  pub part_in :
      (at k : ℕ) → at + k ≤ end - from →
      take k (drop at (between s from end)) ≡ take k (drop at (drop from s))
  part_in at k room =
      let size = line-length in
      let rest = length-drop from s in
      let left-room = length-drop at (between s from end) in
      let right-room = length-drop at (drop from s) in
      let left = length-take-le k (drop at (between s from end)) (omega arith) in
      let right = length-take-le k (drop at (drop from s)) (omega arith) in
      ext_get_or 0 _ _ (left ∙ sym right) here
    where
      here :
          (i : ℕ) → i < length (take k (drop at (between s from end))) →
          get_or (take k (drop at (between s from end))) i 0 ≡ get_or (take k (drop at (drop from s))) i 0
      here i h =
          let size = line-length in
          let left-room = length-drop at (between s from end) in
          let left = length-take-le k (drop at (between s from end)) (omega arith) in
          get_or-take k (drop at (between s from end)) i 0 (omega arith)
          ∙ get_or-drop at (between s from end) i 0
          ∙ get_or-take (end - from) (drop from s) (at + i) 0 (omega arith)
          ∙ sym (get_or-take k (drop at (drop from s)) i 0 (omega arith) ∙ get_or-drop at (drop from s) i 0)

-- three bytes
pub three-bytes :
    (s : List ℕ) (a b c : ℕ) → b ≡ a + 1 → c ≡ a + 2 → c < length s →
    take 3 (drop a s) ≡ get_or s a 0 ∷ get_or s b 0 ∷ get_or s c 0 ∷ []
three-bytes s a b c eb ec inside =
    let one : suc a ≡ b = omega arith in
    let two : suc b ≡ c = omega arith in
    ap (take 3) (drop-cons s a 0 (omega arith))
    ∙ ap (λ rest. get_or s a 0 ∷ take 2 rest) (ap (λ p. drop p s) one ∙ drop-cons s b 0 (omega arith))
    ∙ ap (λ rest. get_or s a 0 ∷ get_or s b 0 ∷ take 1 rest) (ap (λ p. drop p s) two ∙ drop-cons s c 0 inside)
