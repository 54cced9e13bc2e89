-- The lines of a text that was written line by line are those lines, and then the lines of what follows.
-- Line by line: the bytes before the first line feed are a text and its carriage return, which `without_return`
-- removes.
use Prim.Native.Nat.{ℕ, ◌-◌}
use native.Mathlib.Omega.{arith}
use mathlib.Core.Path.{◌≡◌, refl, ap}
use mathlib.Core.Bool.{Bool, true, false, ◌||◌, not}
use mathlib.Core.List.{List, [], ◌∷◌, ◌++◌, append_assoc, append-nil}
use lib.ListN.{length, length-append}
use lib.Seq.{take-append_seam, get_or-append_seam}
use lib.Dec.{eqb}
use borrow.Author.Tests.{not-true}
use Rattle.graph.proofs.Below.{and_left, and_right, and_parts, and_both}
use Rattle.molfile.specs.Lines.{in_front, before_feeds, without_return, lines_in}
use Rattle.molfile.specs.Text.{Written, return_of, written_text, texts, lacks, last_byte, fits_line, all_fit}

-- ---- bytes that do not occur

pub lacks-append :
    (b : ℕ) (xs ys : List ℕ) → lacks b xs ≡ true → lacks b ys ≡ true → lacks b (xs ++ ys) ≡ true
unfolding lacks
lacks-append b [] ys left right = right
lacks-append b (x ∷ xs) ys left right =
    let parts = and_parts (not (eqb x b)) (lacks b xs) left in
    and_both _ _ parts.0 (lacks-append b xs ys parts.1 right)

-- ---- the first line

-- bytes without a line feed, up to one
before-feed :
    (xs rest : List ℕ) → lacks 10 xs ≡ true → before_feeds (xs ++ (10 ∷ rest)) ≡ xs ∷ before_feeds rest
unfolding before_feeds in_front lacks
before-feed [] rest none = refl
before-feed (x ∷ xs) rest none =
    let parts = and_parts (not (eqb x 10)) (lacks 10 xs) none in
    rw (not-true (eqb x 10) parts.0, before-feed xs rest parts.1)

-- the text of a line that was written
text-back :
    (text : List ℕ) (returned : Bool) → fits_line (text, returned) ≡ true →
    without_return (text ++ return_of returned) ≡ text
unfolding without_return fits_line
text-back text true fits =
    let last : length (text ++ (13 ∷ [])) - 1 ≡ length text = simp length-append (omega arith) in
    rw (last, get_or-append_seam text 13 [] 0, take-append_seam text (13 ∷ []))
text-back text false fits =
    let other = not-true (eqb (last_byte text) 13) (and_right (lacks 10 text) (not (eqb (last_byte text) 13)) fits) in
    rw (append-nil text, other)

-- what stands before its line feed
first-written :
    (text : List ℕ) (returned : Bool) (rest : List ℕ) → fits_line (text, returned) ≡ true →
    before_feeds (text ++ (return_of returned ++ (10 ∷ rest))) ≡ (text ++ return_of returned) ∷ before_feeds rest
unfolding fits_line lacks
first-written text returned rest fits =
    let whole = append_assoc text (return_of returned) (10 ∷ rest) in
    let inside = and_left (lacks 10 text) (returned || not (eqb (last_byte text) 13)) fits in
    let none = lacks-append 10 text (return_of returned) inside (return returned) in
    rw (← whole) (before-feed (text ++ return_of returned) rest none)
  where
    return : (returned : Bool) → lacks 10 (return_of returned) ≡ true
    return true = refl
    return false = refl

-- ---- all lines

-- Lines that fit are read back one by one
pub written-lines :
    (lines : List Written) (rest : List ℕ) → all_fit lines ≡ true →
    lines_in (written_text lines rest) ≡ texts lines ++ lines_in rest
unfolding lines_in written_text all_fit
written-lines [] rest fit = refl
written-lines (line ∷ lines) rest fit =
    let (here, more) = and_parts (fits_line line) (all_fit lines) fit in
    rw (first-written line.0 line.1 (written_text lines rest) here, text-back line.0 line.1 here)
    (ap (λ read. line.0 ∷ read) (written-lines lines rest more))
