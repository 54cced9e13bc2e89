-- The line that begins at a place, by the first line feed from there on, and the lines passed one after another.
-- Bytes before the first line feed are put in front of its line one by one.
use Prim.Native.Nat.{ℕ, zero, suc, ◌+◌, ◌-◌, ◌≤◌, ◌<◌}
use native.Mathlib.Nat.{add-zero}
use native.Mathlib.Omega.{arith}
use mathlib.Core.Path.{◌≡◌, refl, ap, sym, ◌∙◌}
use mathlib.Core.List.{List, [], ◌∷◌}
use lib.ListN.{length, get_or, take, drop, length-drop}
use lib.Seq.{get_or-drop, drop-drop, drop-nil, get_or-take, length-take-le, take-take}
use borrow.Author.Tests.{eq-eqb, ne_eqb}
use Rattle.molfile.specs.Lines.{in_front, before_feeds, without_return, lines_in, file_line}
use Rattle.molfile.specs.Parts.{lines_from, between, NoFeed, FirstFeed, LineFound, LinesPassed}
use native.Mathlib.Decide.{dec_lt}
use borrow.Author.Tests.{eqb-false}
use borrow.Author.Tests.{not-true}
use Rattle.graph.proofs.Below.{all_below-at}
use Rattle.molfile.specs.Parts.{no_feed_at}
use Rattle.graph.specs.Every.{all_below}
use lib.Dec.{eqb}
use mathlib.Core.Bool.{true}

-- ---- bytes before the first line feed

-- no line feed, no line
no_lines_lem : (bytes : List ℕ) → ((j : ℕ) → j < length bytes → get_or bytes j 0 ≡ 10 → ⊥) → before_feeds bytes ≡ []
unfolding before_feeds in_front
no_lines_lem [] none = refl
no_lines_lem (b ∷ bytes) none =
    rw (ne_eqb b 10 (none 0 (omega arith)), no_lines_lem bytes (λ j h. none (suc j) (omega arith)))

-- the bytes before the first line feed are the first line
first-line :
    (k : ℕ) (bytes : List ℕ) → k < length bytes → get_or bytes k 0 ≡ 10 →
    ((j : ℕ) → j < k → get_or bytes j 0 ≡ 10 → ⊥) →
    before_feeds bytes ≡ take k bytes ∷ before_feeds (drop (suc k) bytes)
unfolding before_feeds in_front
first-line k [] inside feed none = absurd (omega arith)
first-line zero (b ∷ bytes) inside feed none = rw (eq-eqb b 10 feed)
first-line (suc k) (b ∷ bytes) inside feed none =
    let rest = first-line k bytes (omega arith) feed (λ j h. none (suc j) (omega arith)) in
    rw (ne_eqb b 10 (none 0 (omega arith)), rest)

-- a block of 16 bytes without a line feed after bytes without one
pub no-feed-block :
    {s : List ℕ} {from i : ℕ} → NoFeed s from i → 16 ≤ length s - i → all_below 16 (no_feed_at s i) ≡ true →
    NoFeed s from (i + 16)
no-feed-block {s} {from} {i} apart room clear =
    record {
      ordered = let o = apart.ordered in omega arith;
      inside = let o = apart.inside in omega arith;
      none = none;
    }
  where
    none : (j : ℕ) → from ≤ j → j < i + 16 → get_or s j 0 ≡ 10 → ⊥
    none j low high e = go (dec_lt j i)
      where
        go : Dec (j < i) → ⊥
        go (yes less) = apart.none j low less e
        go (no more) =
            let here : i + (j - i) ≡ j = omega arith in
            let other = all_below-at 16 (no_feed_at s i) clear (j - i) (omega arith) in
            eqb-false (get_or s (i + (j - i)) 0) 10 (not-true (eqb (get_or s (i + (j - i)) 0) 10) other) (rw here e)

-- ---- a line of the bytes s, from a place on

pub line-missing : {s : List ℕ} {from : ℕ} → NoFeed s from (length s) → lines_from s from ≡ []
unfolding lines_in
line-missing {s} {from} apart = rw (no_lines_lem (drop from s) none)
  where
    none : (j : ℕ) → j < length (drop from s) → get_or (drop from s) j 0 ≡ 10 → ⊥
    none j h e =
        let size = length-drop from s in
        apart.none (from + j) (omega arith) (omega arith) (sym (get_or-drop from s j 0) ∙ e)

module _ {s : List ℕ} {from feed : ℕ} (found : FirstFeed s from feed) where
  abbrev apart : NoFeed s from feed
  apart = found.none_before

  abbrev inside : feed < length s
  inside = found.inside

  line : before_feeds (drop from s) ≡ between s from feed ∷ before_feeds (drop (feed + 1) s)
  line =
      let ordered = apart.ordered in
      let size = length-drop from s in
      let at : from + (feed - from) ≡ feed = omega arith in
      let here : get_or (drop from s) (feed - from) 0 ≡ 10 =
      get_or-drop from s (feed - from) 0 ∙ rw at found.here in
      let past : from + suc (feed - from) ≡ feed + 1 = omega arith in
      first-line (feed - from) (drop from s) (omega arith) here none
      ∙ ap (λ rest. between s from feed ∷ before_feeds rest) (drop-drop (suc (feed - from)) from s ∙ rw past)
    where
      none : (j : ℕ) → j < feed - from → get_or (drop from s) j 0 ≡ 10 → ⊥
      none j h e = apart.none (from + j) (omega arith) (omega arith) (sym (get_or-drop from s j 0) ∙ e)

  size : length (between s from feed) ≡ feed - from
  size = let room = length-drop from s in length-take-le (feed - from) (drop from s) (omega arith)

  -- its last byte
  last_byte_lem :
      from < feed → get_or (between s from feed) (length (between s from feed) - 1) 0 ≡ get_or s (feed - 1) 0
  last_byte_lem more =
      let at : from + (feed - from - 1) ≡ feed - 1 = omega arith in
      rw size (
      get_or-take (feed - from) (drop from s) (feed - from - 1) 0 (omega arith)
      ∙ get_or-drop from s (feed - from - 1) 0
      ∙ rw at
      )

  found-line :
      {end : ℕ} → from ≤ end → end ≤ feed → without_return (between s from feed) ≡ between s from end →
      LineFound s from end (feed + 1)
  unfolding lines_in
  found-line low high text =
      record { starts = low; ends = omega arith; inside = omega arith; first = rw (line, text) }

  -- nothing before the line feed, or another byte than a carriage return
  pub line-empty : feed ≤ from → LineFound s from feed (feed + 1)
  unfolding without_return
  line-empty none =
      let ordered = apart.ordered in
      let nothing : feed - from ≡ 0 = omega arith in
      found-line ordered (omega arith) (rw nothing)

  module _ (more : from < feed) where
    pub line_plain : (get_or s (feed - 1) 0 ≡ 13 → ⊥) → LineFound s from feed (feed + 1)
    unfolding without_return
    line_plain other =
        found-line apart.ordered (omega arith) (rw (last_byte_lem more, ne_eqb (get_or s (feed - 1) 0) 13 other))

    pub line-returned : get_or s (feed - 1) 0 ≡ 13 → LineFound s from (feed - 1) (feed + 1)
    unfolding without_return
    line-returned return =
        let last = eq-eqb (get_or s (feed - 1) 0) 13 return in
        found-line (omega arith) (omega arith) (rw (last_byte_lem more, last, size) cut)
      where
        cut : take (feed - from - 1) (between s from feed) ≡ between s from (feed - 1)
        cut =
            let same : feed - from - 1 ≡ feed - 1 - from = omega arith in
            take-take (feed - from - 1) (feed - from) (drop from s) (omega arith) ∙ rw same

-- ---- lines passed one after another

pub passed_none : {s : List ℕ} {from : ℕ} → from ≤ length s → LinesPassed s from 0 from
passed_none inside = record { inside = inside; rest = refl }

module _ {s : List ℕ} {from i at : ℕ} (passed : LinesPassed s from i at) where
  line_at : file_line (lines_from s from) i ≡ file_line (drop i (lines_from s from)) 0
  line_at = sym (get_or-drop i (lines_from s from) 0 [] ∙ rw (add-zero i))

  -- line i is the first from the place on
  pub line-first : file_line (lines_from s from) i ≡ file_line (lines_from s at) 0
  line-first = line_at ∙ ap (λ lines. file_line lines 0) (sym passed.rest)

  -- where one stands there
  pub line-here : {end next : ℕ} → LineFound s at end next → file_line (lines_from s from) i ≡ between s at end
  line-here found = line-first ∙ ap (λ lines. file_line lines 0) found.first

  pub passed-more : {end next : ℕ} → LineFound s at end next → LinesPassed s from (i + 1) next
  passed-more {next = next} found =
      record {
        inside = found.inside;
        rest = sym (sym (drop-drop 1 i (lines_from s from)) ∙ ap (drop 1) (sym passed.rest ∙ found.first));
      }

-- a line that is missing, of so many
pub skipped-none :
    {s : List ℕ} {count i at : ℕ} → LinesPassed s 0 i at → i < count → lines_from s at ≡ [] →
    drop count (lines_from s 0) ≡ []
skipped-none {s} {count} {i} passed more none =
    let size : i + (count - i) ≡ count = omega arith in
    sym (rw size at (drop-drop (count - i) i (lines_from s 0)))
    ∙ ap (drop (count - i)) (sym passed.rest ∙ none)
    ∙ drop-nil (count - i)

-- ---- lines passed, and then more

module _ {s : List ℕ} {from i at : ℕ} (passed : LinesPassed s from i at) where
  -- line j from there on
  pub lines-on : (j : ℕ) → file_line (lines_from s at) j ≡ file_line (lines_from s from) (i + j)
  lines-on j = ap (λ lines. file_line lines j) passed.rest ∙ get_or-drop i (lines_from s from) j []

  pub passed_on : {j next : ℕ} → LinesPassed s at j next → LinesPassed s from (i + j) next
  passed_on {j} more =
      record {
        inside = more.inside;
        rest = more.rest ∙ ap (drop j) passed.rest ∙ drop-drop j i (lines_from s from);
      }
