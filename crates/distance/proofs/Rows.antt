-- A row stored into a word table: the bonds of its atom become those of the row, the others stay.
-- A row is two words, and a place of the table is one word of one row.
use Prim.Native.Nat.{ℕ, ◌+◌, ◌-◌, ◌*◌, ◌/◌, ◌%◌, ◌≤◌, ◌<◌}
use native.Mathlib.Decide.{ℕ_discrete}
use native.Mathlib.Omega.{arith}
use mathlib.Core.Path.{◌≡◌, ◌∙◌}
use mathlib.Core.Bool.{Bool, true, false, ◌&&◌, and-false}
use mathlib.Core.List.{List}
use mathlib.Core.Logic.{◌⊎◌, inl, inr}
use lib.ListN.{length, get_or, set, replicate, length-set}
use lib.Seq.{get_or-set_same, get_or-set_other}
use Rattle.graph.specs.Chordless.{Adjacency}
use Rattle.graph.proofs.Below.{either, and_parts}
use Rattle.graph.proofs.Places.{zeros-at}
use Rattle.molecule.specs.Record.{bit, is_atom}
use Rattle.molecule.proofs.Bonds.{atom-bounds, atom-of}
use Rattle.atomset.specs.Set.{has, linked_by, Lowest, LowestLeft}
use Rattle.atomset.proofs.Digits.{bit-none}
use Rattle.atomset.proofs.Size.{rest-within}
use Rattle.distance.specs.Layers.{RowsKept}
use Rattle.distance.proofs.Replaced.{Replaced, replaced-more, replaced-end}

-- a table of zeros has no bonds
abbrev pub zeros : List ℕ
zeros = replicate 256 0

pub linked-none : (a b : ℕ) → linked_by zeros a b ≡ false
unfolding linked_by
linked-none a b =
    rw (zeros-at 256 (2 * (a - 1) + (b - 1) / 64), bit-none ((b - 1) % 64)) (and-false (is_atom 128 a && is_atom 128 b))

-- the table with a row at the place of atom v
abbrev pub with_row : List ℕ → ℕ → List ℕ → List ℕ
with_row table v row = set (set table (2 * (v - 1)) (get_or row 0 0)) (2 * (v - 1) + 1) (get_or row 1 0)

module _ (table : List ℕ) (v : ℕ) (row : List ℕ) (low : 1 ≤ v) (high : v ≤ 128) (long : length table ≡ 256) where
  pub row-size : length (with_row table v row) ≡ 256
  row-size = simp length-set long

  word_same : (w : ℕ) → w < 2 → get_or (with_row table v row) (2 * (v - 1) + w) 0 ≡ get_or row w 0
  word_same w h = elim (ℕ_discrete w 0) [
    | yes q ↦
        let at : 2 * (v - 1) + w ≡ 2 * (v - 1) = omega arith in
        let other : 2 * (v - 1) ≡ 2 * (v - 1) + 1 → ⊥ = λ e. omega arith in
        let inside : 2 * (v - 1) < length table = omega arith in
        rw (at, q, get_or-set_other (set table (2 * (v - 1)) (get_or row 0 0)) _ _ (get_or row 1 0) 0 other)
        (get_or-set_same table (2 * (v - 1)) (get_or row 0 0) 0 inside)
    | no q ↦
        let one : w ≡ 1 = omega arith in
        let long-still = length-set table (2 * (v - 1)) (get_or row 0 0) in
        let inside : 2 * (v - 1) + 1 < length (set table (2 * (v - 1)) (get_or row 0 0)) = omega arith in
        rw one (get_or-set_same (set table (2 * (v - 1)) (get_or row 0 0)) (2 * (v - 1) + 1) (get_or row 1 0) 0 inside)
  ]

  word-other :
      (i : ℕ) → (i ≡ 2 * (v - 1) → ⊥) → (i ≡ 2 * (v - 1) + 1 → ⊥) → get_or (with_row table v row) i 0 ≡ get_or table i 0
  word-other i first second =
      get_or-set_other (set table (2 * (v - 1)) (get_or row 0 0)) (2 * (v - 1) + 1) i (get_or row 1 0) 0 second
      ∙ get_or-set_other table (2 * (v - 1)) i (get_or row 0 0) 0 first

  linked-same : (b : ℕ) → linked_by (with_row table v row) v b ≡ has row b
  unfolding linked_by has
  linked-same b = rw (atom-of 128 v low high) (split (either (is_atom 128 b)))
    where
      split :
          (is_atom 128 b ≡ true) ⊎ (is_atom 128 b ≡ false) →
          (is_atom 128 b && bit (get_or (with_row table v row) (2 * (v - 1) + (b - 1) / 64) 0) ((b - 1) % 64)) ≡
          (is_atom 128 b && bit (get_or row ((b - 1) / 64) 0) ((b - 1) % 64))
      split (inr e) = rw e
      split (inl e) =
          let range = atom-bounds 128 b e in
          rw (e, word_same ((b - 1) / 64) (omega arith))

  linked-other : (a b : ℕ) → (a ≡ v → ⊥) → linked_by (with_row table v row) a b ≡ linked_by table a b
  unfolding linked_by
  linked-other a b other = split (either (is_atom 128 a && is_atom 128 b))
    where
      split :
          (is_atom 128 a && is_atom 128 b ≡ true) ⊎ (is_atom 128 a && is_atom 128 b ≡ false) →
          (is_atom 128 a && is_atom 128 b &&
          bit (get_or (with_row table v row) (2 * (a - 1) + (b - 1) / 64) 0) ((b - 1) % 64)) ≡
          (is_atom 128 a && is_atom 128 b && bit (get_or table (2 * (a - 1) + (b - 1) / 64) 0) ((b - 1) % 64))
      split (inr e) = rw e
      split (inl e) =
          let (is-a, is_b) = and_parts (is_atom 128 a) (is_atom 128 b) e in
          let a-range = atom-bounds 128 a is-a in
          let b-range = atom-bounds 128 b is_b in
          let i = 2 * (a - 1) + (b - 1) / 64 in
          let first : i ≡ 2 * (v - 1) → ⊥ = λ q. other (omega arith) in
          let second : i ≡ 2 * (v - 1) + 1 → ⊥ = λ q. other (omega arith) in
          rw (word-other i first second)

-- ---- a loop that stores the rows of the atoms of `found`; those of `left` are to do

pub record Storing (adj : Adjacency) (front found left : ℕ → Bool) (old rows : List ℕ) : Type 0 where
  pub long : length rows ≡ 256
  pub within : (a : ℕ) → left a ≡ true → found a ≡ true
  pub bonds : (b : ℕ) → Replaced found left (λ a. linked_by old a b) (λ a. adj a b && front b) (λ a. linked_by rows a b)

module _ {adj : Adjacency} {front found : ℕ → Bool} {old : List ℕ} where
  pub storing-more :
      {left rest rows : List ℕ} {v : ℕ} (near : List ℕ) → Storing adj front found (has left) old rows → Lowest left v →
      LowestLeft left rest → ((b : ℕ) → has near b ≡ (adj v b && front b)) →
      Storing adj front found (has rest) old (with_row rows v near)
  storing-more {left} {rest} {rows} {v} near s lowest takes near-is = record {
    long = row-size rows v near low high s.long;
    within = λ a e. s.within a (rest-within takes a e);
    bonds = λ b.
        replaced-more s.within lowest.member (takes.others v lowest) (s.bonds b)
        (linked-same rows v near low high s.long b ∙ near-is b)
        (λ a other. linked-other rows v near low high s.long a b other);
  }
    where
      low : 1 ≤ v
      low = lowest.low

      high : v ≤ 128
      high = lowest.high

  pub storing-end :
      {left : ℕ → Bool} {rows : List ℕ} → Storing adj front found left old rows → ((a : ℕ) → left a ≡ false) →
      RowsKept adj front found old rows
  storing-end s empty = record { size = s.long; bonds = λ a b. replaced-end empty (s.bonds b) a }
