-- The lines of a molfile, by their columns: the pairs of numbers, and the line of counts.
-- What stands in columns that a line reaches are the bytes from its place on (Words).
use Rattle.std.specs.Prelude.{None, Some}
use Prim.Native.Nat.{ℕ, ◌+◌, ◌-◌, ◌≤◌}
use native.Mathlib.Omega.{arith}
use mathlib.Core.Path.{◌≡◌, ap, ap₂, sym, ◌∙◌}
use mathlib.Core.Bool.{Bool, true, false, ◌&&◌}
use mathlib.Core.List.{List}
use lib.ListN.{length, take, drop, length-drop}
use lib.Dec.{leb, eqb}
use Rattle.std.specs.List.{starts_with}
use Rattle.std.proofs.lemmas.List.{take_rest}
use lib.Seq.{length-take-le, drop-drop}
use borrow.Author.Tests.{le-leb}
use Rattle.fields.specs.declared.Number.{Number}
use Rattle.fields.specs.Field.{after_blanks, is_value, value_of}
use Rattle.fields.proofs.Laws.{blanks-fit}
use Rattle.bonds.specs.Bonds.{Bond}
use Rattle.molfile.specs.declared.Line.{Line}
use Rattle.molfile.specs.Lines.{stands, file_line, reaches}
use Rattle.molfile.specs.Molfile.{numbers_kept, numbers_in, version, counts_line_kept}
use Rattle.molfile.specs.Parts.{lines_from, between, LineFound, LongLine, SmallPair, CountsRead, ReadsCounts}
use Rattle.molfile.proofs.Feeds.{passed_none, passed-more}
use Rattle.molfile.proofs.Words.{word-starts, line-length, word_in, part_in}

-- ---- a pair of numbers

-- a number of three columns is below 1,000
pub three-digits :
    (s : List ℕ) (at : ℕ) {x : Number} → after_blanks true (take 3 (drop at s)) ≡ Some x → at + 3 ≤ length s →
    x.value ≤ 999
three-digits s at {x} e room =
    let rest = length-drop at s in
    let size = length-take-le 3 (drop at s) (omega arith) in
    let fits = rw size at (blanks-fit true (take 3 (drop at s)) x.value x.zeros e) in
    omega arith

module _ (s : List ℕ) (at : ℕ) (room : at + 6 ≤ length s) where
  -- the columns of the two, as parts of the bytes
  abbrev left_part : List ℕ
  left_part = take (at + 3 - at) (drop at s)

  abbrev right_part : List ℕ
  right_part = take (at + 6 - (at + 3)) (drop (at + 3) s)

  left-is : left_part ≡ take 3 (drop at s)
  left-is = let size : at + 3 - at ≡ 3 = omega arith in rw size

  right-is : right_part ≡ take 3 (drop 3 (drop at s))
  right-is = let size : at + 6 - (at + 3) ≡ 3 = omega arith in rw size (ap (take 3) (sym (drop-drop 3 at s)))

  pub left-bad : None ≡ after_blanks true left_part → numbers_kept (drop at s) ≡ false
  left-bad e = rw (← left-is, ← e)

  module _ {x : Number} (left : Some x ≡ after_blanks true left_part) where
    pub right-bad : None ≡ after_blanks true right_part → numbers_kept (drop at s) ≡ false
    right-bad e = rw (← left-is, ← left, ← right-is, ← e)

    pub small_left : x.value ≤ 999
    small_left = three-digits s at (rw left-is at (sym left)) (omega arith)

    module _ {y : Number} (right : Some y ≡ after_blanks true right_part) where
      pub small_right : y.value ≤ 999
      small_right =
          let size : at + 6 - (at + 3) ≡ 3 = omega arith in
          three-digits s (at + 3) (rw size at (sym right)) (omega arith)

      pub pair_read : SmallPair (drop at s) (x.value, y.value)
      pair_read =
          record {
            kept = rw (← left-is, ← left, ← right-is, ← right);
            is = rw (← left-is, ← left, ← right-is, ← right);
            small_left = small_left;
            small_right = small_right;
          }

-- ---- a line that was found

module _ {s : List ℕ} {from end next : ℕ} (found : LineFound s from end next) where
  abbrev text : List ℕ
  text = between s from end

  inside : end ≤ length s
  inside = let ends = found.ends in let last = found.inside in omega arith

  pub text-length : length text ≡ end - from
  text-length = line-length s from end found.starts inside

  pub reached : (columns : ℕ) → columns ≤ end - from → leb columns (length text) ≡ true
  reached columns long = rw text-length (le-leb columns (end - from) long)

  -- its numbers are those of the bytes
  module _ (long : 6 ≤ end - from) where
    first-number : take 3 (drop 0 text) ≡ take 3 (drop 0 (drop from s))
    first-number = part_in s from end found.starts inside 0 3 (omega arith)

    second-number : take 3 (drop 3 text) ≡ take 3 (drop 3 (drop from s))
    second-number = part_in s from end found.starts inside 3 3 (omega arith)

    pub same_kept : numbers_kept text ≡ numbers_kept (drop from s)
    same_kept =
        ap₂ (λ a b. is_value (after_blanks true a) && is_value (after_blanks true b)) first-number second-number

    pub same-pair : numbers_in text ≡ numbers_in (drop from s)
    same-pair =
        ap₂ {C = Bond} (λ a b. (value_of (after_blanks true a), value_of (after_blanks true b))) first-number
        second-number

  same_word :
      (word : List ℕ) (at : ℕ) → at + length word ≤ end - from →
      stands word at text ≡ stands word 0 (drop (from + at) s)
  same_word = word_in s from end found.starts inside

-- ---- the counts line

module _ (s : List ℕ) (from : ℕ) where
  pub counts-short : reaches 39 (file_line (lines_from s from) 0) ≡ false → ReadsCounts s from None
  unfolding counts_line_kept
  counts-short short = rw short

  module _ (start : from ≤ length s) {line : Line} (read : LongLine s from 39 line) where
    abbrev found : LineFound s from line.end line.next
    found = read.found

    abbrev long : 39 ≤ line.end - from
    long = read.long

    first-is : file_line (lines_from s from) 0 ≡ between s from line.end
    first-is = ap (λ lines. file_line lines 0) found.first

    counts-room : from + 39 ≤ length s
    counts-room = let ends = found.ends in let last = found.inside in omega arith

    kept_is : numbers_kept (between s from line.end) ≡ numbers_kept (drop from s)
    kept_is = same_kept found (omega arith)

    pub counts-no-pair : numbers_kept (drop from s) ≡ false → ReadsCounts s from None
    unfolding counts_line_kept
    counts-no-pair bad = rw (first-is, reached found 39 long, kept_is, bad)

    -- what the text from its place on starts with
    pub version-told :
        {t : Bool} → t ≡ starts_with eqb (take (length s - (from + 34)) (drop (from + 34) s)) version →
        stands version 0 (drop (from + 34) s) ≡ t
    version-told told =
        let room = counts-room in
        let size = length-drop (from + 34) s in
        sym (rw (take_rest s (from + 34)) at told ∙ word-starts version (drop (from + 34) s) (omega arith))

    module _ {x : Bond} (pair : SmallPair (drop from s) x) where
      version-is : stands version 34 (between s from line.end) ≡ stands version 0 (drop (from + 34) s)
      version-is = same_word found version 34 (omega arith)

      pub counts-no-version : stands version 0 (drop (from + 34) s) ≡ false → ReadsCounts s from None
      unfolding counts_line_kept
      counts-no-version other = rw (first-is, reached found 39 long, kept_is, pair.kept, version-is, other)

      pub counts-read :
          {n m : ℕ} → stands version 0 (drop (from + 34) s) ≡ true → n ≡ x.0 → m ≡ x.1 →
          CountsRead s from (record { atoms = n; bonds = m; next = line.next })
      unfolding counts_line_kept
      counts-read there en em =
          record {
            kept = rw (first-is, reached found 39 long, kept_is, pair.kept, version-is, there);
            is = rw (first-is, en, em) (pair.is ∙ sym (same-pair found (omega arith)));
            passed = passed-more (passed_none start) found;
            few-atoms = rw en pair.small_left;
            few-bonds = rw em pair.small_right;
          }
