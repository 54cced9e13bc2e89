-- Capped sums: sums of capped numbers, capped again, are the capped sums; and the loops that make them.
-- By the cases of a number up to the limit and one above it.
use Prim.Native.Nat.{ℕ, zero, suc, ◌+◌, ◌≤◌, ◌<◌}
use native.Mathlib.Decide.{dec_lt}
use native.Mathlib.Omega.{arith}
use mathlib.Core.Path.{◌≡◌, refl, ap, sym, ◌∙◌}
use mathlib.Core.Bool.{Bool, true, false, ◌&&◌, not, cond, and-false}
use mathlib.Core.List.{List}
use mathlib.Core.Logic.{◌⊎◌, inl, inr}
use lib.ListN.{length, get_or, set, length-set}
use lib.Seq.{get_or-set_same, get_or-set_other}
use lib.Dec.{eqb}
use borrow.Author.Tests.{le-leb, lt-leb, eq-eqb, eqb-true, ne_eqb}
use Rattle.graph.specs.Chordless.{Adjacency}
use Rattle.graph.proofs.Below.{apart, either, clash, false_of}
use Rattle.fields.specs.Field.{limit}
use Rattle.chordless.specs.Distance.{total}
use Rattle.chordless.proofs.Sums.{total-same, total-zero, total-one, total-add}
use Rattle.atomset.specs.Set.{has, Lowest, LowestLeft}
use Rattle.atomset.proofs.Size.{rest-within}
use Rattle.distance.specs.Capped.{capped, sum_over}
use Rattle.distance.proofs.Replaced.{Replaced, replaced-more}

-- ---- capped numbers

pub capped_small : {x : ℕ} → x ≤ limit → capped x ≡ x
unfolding capped
capped_small {x} h = rw (le-leb x limit h)

pub capped-large : {x : ℕ} → limit < x → capped x ≡ suc limit
unfolding capped
capped-large {x} h = rw (lt-leb x limit h)

-- a capped number is capped already
pub capped_same : {x : ℕ} → x ≤ suc limit → capped x ≡ x
capped_same {x} h = elim (dec_lt limit x) [
  | yes above ↦ let same : x ≡ suc limit = omega arith in capped-large above ∙ sym same
  | no below ↦ capped_small (omega arith)
]

pub capped-within : (x : ℕ) → capped x ≤ suc limit
capped-within x = elim (dec_lt limit x) [
  | yes above ↦ rw (capped-large above) (omega arith)
  | no below ↦ rw (capped_small {x = x} (omega arith)) (omega arith)
]

pub capped_left : (a b : ℕ) → capped (capped a + b) ≡ capped (a + b)
capped_left a b = elim (dec_lt limit a) [
  | yes above ↦ rw (capped-large above) (capped-large (omega arith) ∙ sym (capped-large (omega arith)))
  | no below ↦ rw (capped_small {x = a} (omega arith))
]

capped-both : (a b : ℕ) → capped (capped a + capped b) ≡ capped (a + b)
capped-both a b =
    let turned : a + capped b ≡ capped b + a = omega arith in
    let back : b + a ≡ a + b = omega arith in
    capped_left a (capped b) ∙ ap capped turned ∙ capped_left b a ∙ ap capped back

-- a sum of capped numbers
pub capped-total : (n : ℕ) (f : ℕ → ℕ) → capped (total n (λ a. capped (f a))) ≡ capped (total n f)
unfolding total
capped-total zero f = refl
capped-total (suc n) f =
    sym (capped_left (total n (λ a. capped (f a))) (capped (f (suc n))))
    ∙ rw (capped-total n f) (capped-both (total n f) (f (suc n)))

-- ---- the sum over a set; `left` is to do

-- an atom of a set, and the rest
sum-take :
    (numbers : List ℕ) {left rest : List ℕ} {v : ℕ} → Lowest left v → LowestLeft left rest →
    sum_over (has left) numbers ≡ get_or numbers v 0 + sum_over (has rest) numbers
sum-take numbers {left} {rest} {v} lowest takes =
    total-same 128 _ _ (λ a at. rw (takes.others v lowest a) (parts (has left a) (eqb a v) _ (same a)))
    ∙ total-add 128 alone _
    ∙ ap (λ x. x + sum_over (has rest) numbers) taken
  where
    parts : (s one : Bool) (x : ℕ) → (one ≡ true → s ≡ true) → cond s x 0 ≡ cond one x 0 + cond (s && not one) x 0
    parts true true x h = omega arith
    parts true false x h = omega arith
    parts false true x h = absurd (apart (sym (h refl)))
    parts false false x h = omega arith

    same : (a : ℕ) → eqb a v ≡ true → has left a ≡ true
    same a e = rw (eqb-true a v e) lowest.member

    alone : ℕ → ℕ
    alone a = cond (eqb a v) (get_or numbers a 0) 0

    taken : total 128 alone ≡ get_or numbers v 0
    taken =
        total-one 128 alone record { low = lowest.low; high = lowest.high } (λ a at other. rw (ne_eqb a v other))
        ∙ rw (eq-eqb v v refl)

pub record Summed (numbers : List ℕ) (all left : ℕ → Bool) (sum : ℕ) : Type 0 where
  pub within : sum ≤ suc limit
  pub rest : capped (sum + sum_over left numbers) ≡ capped (sum_over all numbers)

module _ {numbers : List ℕ} {all : ℕ → Bool} where
  pub summed-more :
      {left rest : List ℕ} {v sum more : ℕ} → Summed numbers all (has left) sum → Lowest left v → LowestLeft left rest →
      more ≡ capped (sum + get_or numbers v 0) → Summed numbers all (has rest) more
  summed-more {left} {rest} {v} {sum} s lowest takes more_is =
      let taken = sum-take numbers lowest takes in
      let same : sum + get_or numbers v 0 + sum_over (has rest) numbers ≡ sum + sum_over (has left) numbers =
      omega arith in
      record {
        within = rw more_is (capped-within (sum + get_or numbers v 0));
        rest =
            rw more_is
            (capped_left (sum + get_or numbers v 0) (sum_over (has rest) numbers) ∙ ap capped same ∙ s.rest);
      }

  pub summed-end :
      {left : ℕ → Bool} {sum : ℕ} → Summed numbers all left sum → ((a : ℕ) → left a ≡ false) →
      sum ≡ capped (sum_over all numbers)
  summed-end {left} {sum} s empty =
      let none = total-zero 128 (λ a. cond (left a) (get_or numbers a 0) 0) (λ a at. rw (empty a)) in
      let same : sum + sum_over left numbers ≡ sum = omega arith in
      sym (capped_same s.within) ∙ ap capped (sym same) ∙ s.rest

-- ---- a loop that stores the sums of the atoms of `found`; those of `left` are to do

-- the sum of the numbers of the atoms of `front` that v is bonded to
abbrev pub sum_before : Adjacency → (ℕ → Bool) → List ℕ → ℕ → ℕ
sum_before adj front numbers v = capped (sum_over (λ a. adj v a && front a) numbers)

pub record Summing (adj : Adjacency) (front found left : ℕ → Bool) (old numbers : List ℕ) : Type 0 where
  pub long : length numbers ≡ 129
  pub apart : (a : ℕ) → found a ≡ true → front a ≡ false
  pub within : (a : ℕ) → left a ≡ true → found a ≡ true
  pub sums : Replaced found left (λ v. get_or old v 0) (sum_before adj front old) (λ v. get_or numbers v 0)

module _ {adj : Adjacency} {front found : ℕ → Bool} {old : List ℕ} where
  -- the numbers of the atoms of `front` are still the old ones
  sum-still :
      {left near : ℕ → Bool} {numbers : List ℕ} (v : ℕ) → Summing adj front found left old numbers →
      ((b : ℕ) → near b ≡ (adj v b && front b)) → sum_over near numbers ≡ sum_over (λ a. adj v a && front a) old
  sum-still {left} {near} {numbers} v s near-is =
      total-same 128 _ _ (λ a at. rw (near-is a) (at-atom a (either (front a))))
    where
      at-atom :
          (a : ℕ) → (front a ≡ true) ⊎ (front a ≡ false) →
          cond (adj v a && front a) (get_or numbers a 0) 0 ≡ cond (adj v a && front a) (get_or old a 0) 0
      at-atom a (inl here) =
          let not_found = false_of (found a) (λ e. clash (front a) here (s.apart a e)) in
          let still : get_or numbers a 0 ≡ get_or old a 0 = s.sums.at a ∙ rw not_found in
          rw still
      at-atom a (inr away) = rw (away, and-false (adj v a))

  pub summing-more :
      {left rest numbers : List ℕ} {v sum : ℕ} (near : List ℕ) → Summing adj front found (has left) old numbers →
      Lowest left v → LowestLeft left rest → ((b : ℕ) → has near b ≡ (adj v b && front b)) →
      sum ≡ capped (sum_over (has near) numbers) → Summing adj front found (has rest) old (set numbers v sum)
  summing-more {left} {rest} {numbers} {v} {sum} near s lowest takes near-is sum_is_lem = record {
    long = length-set numbers v sum ∙ s.long;
    apart = s.apart;
    within = λ a e. s.within a (rest-within takes a e);
    sums =
        replaced-more s.within lowest.member (takes.others v lowest) s.sums
        (get_or-set_same numbers v sum 0 inside ∙ sum_is_lem ∙ ap capped (sum-still v s near-is))
        (λ a other. get_or-set_other numbers v a sum 0 other);
  }
    where
      inside : v < length numbers
      inside = omega (arith, s.long, lowest.high)
