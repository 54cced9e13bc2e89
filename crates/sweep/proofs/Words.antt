-- The atoms near a word of a set are those bonded to one of its atoms, and a round goes through the words of its set.
-- The turns of `near_word` take the bits of a word one at a time, the lowest first; a turn of a round takes a word.
use Prim.Native.Nat.{ℕ, ◌+◌, ◌-◌, ◌*◌, ◌≤◌, ◌<◌}
use native.Mathlib.Omega.{arith}
use native.Mathlib.Decide.{ℕ_discrete}
use mathlib.Core.Path.{◌≡◌, ap, sym, ◌∙◌}
use mathlib.Core.Bool.{Bool, true, false, ◌&&◌, ◌||◌, not}
use mathlib.Core.List.{List}
use mathlib.Core.Logic.{◌⊎◌, inl, inr}
use lib.ListN.{get_or}
use lib.Dec.{ltb, eqb}
use lib.Bits.{bit_and}
use borrow.Author.Tests.{ne_eqb, lt-ltb, ltb-true, ltb-false}
use Rattle.graph.specs.Chordless.{Adjacency}
use Rattle.graph.proofs.Below.{clash, either, false_of, not-of, and_left, and_both, and_parts}
use Rattle.enumeration.proofs.Basics.{or-either, or_left, or_right}
use Rattle.molecule.specs.Record.{bit}
use Rattle.atomset.specs.Set.{has, LowestBit}
use Rattle.atomset.proofs.Digits.{bit-none, bit-cleared}
use Rattle.atomset.proofs.Members.{has_word, has-range}
use Rattle.sweep.specs.Swept.{NearWord}
use Rattle.sweep.proofs.Frontier.{Taken}

-- ---- the loop over the bits of a word

-- an atom of the word that is bonded to a
abbrev FromWord : Adjacency → ℕ → ℕ → ℕ → Type 0
FromWord adj word k a = (j : ℕ) × (j < 64) × (bit word j ≡ true) × (adj (64 * k + j + 1) a ≡ true)

-- the atoms of the bits that are not left are done
pub record NeighboursPassed (adj : Adjacency) (word k : ℕ) (all : List ℕ) (left : ℕ) : Type 0 where
  pub some : (a : ℕ) → has all a ≡ true → FromWord adj word k a
  pub within : (j : ℕ) → bit left j ≡ true → bit word j ≡ true
  pub done : (j a : ℕ) → bit word j ≡ true → adj (64 * k + j + 1) a ≡ true → (has all a ≡ true) ⊎ (bit left j ≡ true)

module _ {adj : Adjacency} {word k : ℕ} where
  pub passed-more :
      {all more : List ℕ} {row : ℕ → Bool} {left j : ℕ} → NeighboursPassed adj word k all left → LowestBit left j →
      ((a : ℕ) → row a ≡ adj (64 * k + j + 1) a) → ((a : ℕ) → has more a ≡ (has all a || row a)) →
      NeighboursPassed adj word k more (bit_and left (left - 1))
  passed-more {all} {more} {row} {left} {j} p low row_is more_is =
      record { some = some; within = λ i b. p.within i (kept i b); done = done }
    where
      rest : (i : ℕ) → bit (bit_and left (left - 1)) i ≡ (bit left i && not (eqb i j))
      rest = bit-cleared left j low.set low.least

      kept : (i : ℕ) → bit (bit_and left (left - 1)) i ≡ true → bit left i ≡ true
      kept i b = and_left (bit left i) (not (eqb i j)) (sym (rest i) ∙ b)

      some : (a : ℕ) → has more a ≡ true → FromWord adj word k a
      some a e = split (or-either (has all a) (row a) (sym (more_is a) ∙ e))
        where
          split : (has all a ≡ true) ⊎ (row a ≡ true) → FromWord adj word k a
          split (inl h) = p.some a h
          split (inr h) = (j, low.below, p.within j low.set, sym (row_is a) ∙ h)

      done :
          (i a : ℕ) → bit word i ≡ true → adj (64 * k + i + 1) a ≡ true →
          (has more a ≡ true) ⊎ (bit (bit_and left (left - 1)) i ≡ true)
      done i a b e = split (p.done i a b e) (ℕ_discrete i j)
        where
          split :
              (has all a ≡ true) ⊎ (bit left i ≡ true) → Dec (i ≡ j) →
              (has more a ≡ true) ⊎ (bit (bit_and left (left - 1)) i ≡ true)
          split (inl h) q = inl (more_is a ∙ or_left (has all a) (row a) h)
          split (inr h) (yes q) = inl (more_is a ∙ or_right (has all a) (row a) (row_is a ∙ (rw q at e)))
          split (inr h) (no q) =
              inr (rest i ∙ and_both (bit left i) (not (eqb i j)) h (not-of (eqb i j) (ne_eqb i j q)))

-- ---- the words of a round

-- the atoms of the words from k on
unfoldable pub from_word : List ℕ → ℕ → ℕ → Bool
from_word words k a = ltb (64 * k) a && has words a

from_parts : (words : List ℕ) (k a : ℕ) → from_word words k a ≡ true → (64 * k < a) × (has words a ≡ true)
unfolding from_word
from_parts words k a e =
    let (above, is-in) = and_parts (ltb (64 * k) a) (has words a) e in (ltb-true (64 * k) a above, is-in)

from-of : (words : List ℕ) (k a : ℕ) → 64 * k < a → has words a ≡ true → from_word words k a ≡ true
unfolding from_word
from-of words k a above is-in = and_both (ltb (64 * k) a) (has words a) (lt-ltb (64 * k) a above) is-in

-- all of them at first, and none at last
pub from_first : (words : List ℕ) (a : ℕ) → has words a ≡ true → from_word words 0 a ≡ true
from_first words a e = let range = has-range words a e in from-of words 0 a (omega arith) e

pub from_in : (words : List ℕ) (k a : ℕ) → from_word words k a ≡ true → has words a ≡ true
from_in words k a e = (from_parts words k a e).1

pub from_last : (words : List ℕ) {k : ℕ} → 2 ≤ k → (a : ℕ) → from_word words k a ≡ false
from_last words {k} h a = false_of (from_word words k a) (λ e. none (from_parts words k a e))
  where
    none : (64 * k < a) × (has words a ≡ true) → ⊥
    none (above, is-in) = let range = has-range words a is-in in omega arith

-- atom a is bit j of word k
pub record AtBit (words : List ℕ) (k a : ℕ) : Type 0 where
  pub j : ℕ
  pub below : j < 64
  pub at : 64 * k + j + 1 ≡ a
  pub set : bit (get_or words k 0) j ≡ true

-- word k is passed
module _ (words : List ℕ) {k : ℕ} (inside : k < 2) where
  pub from_next : (a : ℕ) → from_word words (k + 1) a ≡ true → from_word words k a ≡ true
  from_next a e = let (above, is-in) = from_parts words (k + 1) a e in from-of words k a (omega arith) is-in

  -- its atoms are the bits of the word
  from-word : (a : ℕ) → from_word words k a ≡ true → (from_word words (k + 1) a ≡ true) ⊎ AtBit words k a
  from-word a e = split (from_parts words k a e) (either (ltb (64 * (k + 1)) a))
    where
      split :
          (64 * k < a) × (has words a ≡ true) → (ltb (64 * (k + 1)) a ≡ true) ⊎ (ltb (64 * (k + 1)) a ≡ false) →
          (from_word words (k + 1) a ≡ true) ⊎ AtBit words k a
      split (above, is-in) (inl q) = inl (from-of words (k + 1) a (ltb-true (64 * (k + 1)) a q) is-in)
      split (above, is-in) (inr q) =
          let high = ltb-false (64 * (k + 1)) a q in
          let j = a - 64 * k - 1 in
          let at : 64 * k + j + 1 ≡ a = omega arith in
          let below : j < 64 = omega arith in
          let set = sym (has_word words k j inside below) ∙ ap (has words) at ∙ is-in in
          inr record { j = j; below = below; at = at; set = set }

  -- a word of zeros has no atom
  pub from_zero : get_or words k 0 ≡ 0 → (a : ℕ) → from_word words k a ≡ true → from_word words (k + 1) a ≡ true
  from_zero zeros a e = split (from-word a e)
    where
      split : (from_word words (k + 1) a ≡ true) ⊎ AtBit words k a → from_word words (k + 1) a ≡ true
      split (inl h) = h
      split (inr b) =
          let none = ap (λ (n : ℕ). bit n b.j) zeros ∙ bit-none b.j in
          absurd (clash (bit (get_or words k 0) b.j) b.set none)

  -- the atoms of the word are taken, and near are the atoms bonded to one of them
  pub takes-word :
      {adj : Adjacency} {near : List ℕ} → NearWord adj (get_or words k 0) k near →
      Taken adj (from_word words k) (from_word words (k + 1)) (has near)
  takes-word {adj} {near} n =
      record { fewer = from_next; only = only; settles = λ x e. settles x (from-word x e) }
    where
      only : (a : ℕ) → has near a ≡ true → (x : ℕ) × (from_word words k x ≡ true) × (adj x a ≡ true)
      only a e =
          let (j, below, set, bond) = n.only a e in
          let x = 64 * k + j + 1 in
          (x, from-of words k x (omega arith) (has_word words k j inside below ∙ set), bond)

      settles :
          (x : ℕ) → (from_word words (k + 1) x ≡ true) ⊎ AtBit words k x →
          (from_word words (k + 1) x ≡ true) ⊎ ((a : ℕ) → adj x a ≡ true → has near a ≡ true)
      settles x (inl h) = inl h
      settles x (inr b) = inr (λ a bond. n.every b.j a b.set (ap (λ (y : ℕ). adj y a) b.at ∙ bond))
