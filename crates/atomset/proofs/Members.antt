-- What the sets hold that the operations make: an atom is in the result as the bits of its place say.
-- An atom from 1 to 64 has its bit in the first word, one from 65 to 128 in the second; any other number is in no set.
use Prim.Native.Nat.{ℕ, suc, ◌+◌, ◌-◌, ◌*◌, ◌/◌, ◌%◌, ◌^◌, ◌≤◌, ◌<◌}
use native.Mathlib.Nat.{one-mul}
use native.Mathlib.Omega.{arith}
use native.Mathlib.Decide.{ℕ_discrete}
use mathlib.Core.Path.{◌≡◌, refl, ap, ap₂, sym, ◌∙◌}
use mathlib.Core.Bool.{Bool, true, false, ◌&&◌, ◌||◌, not, and-true}
use mathlib.Core.List.{List, [], ◌∷◌}
use mathlib.Core.Logic.{◌⊎◌, inl, inr}
use Rattle.std.specs.Int.{w64, bit_at}
use Rattle.std.proofs.lemmas.Nat.Bits.{bit_at-trailing_zeros}
use lib.ListN.{get_or, length}
use lib.Pointwise.{pointwise}
use lib.Dec.{leb, ltb, eqb}
use lib.Pow.{shl_exact}
use lib.Bits.{bit_and, bit_or}
use lib.Count.{count_trailing_zeros}
use borrow.Author.Tests.{le-leb, leb-true, leb-false, lt-leb, lt-ltb, ltb-true, ltb-false, eq-eqb, ne_eqb, eqb-true, eqb-false}
use Rattle.graph.proofs.Below.{clash, either, and_parts, and_both, same_test, false_of, not-of}
use Rattle.molecule.specs.Record.{bit, is_atom}
use Rattle.molecule.proofs.Bonds.{atom-of}
use Rattle.atomset.specs.Set.{has, holds_none, Emptiness, Lowest, LowestBit, LowestLeft, AtMostOne}
use Rattle.atomset.proofs.Digits.{bit-none, bit-and, bit-or, bit-less, bit-power, bit-ones, bit-cleared}

-- where an atom's bit is

data Zone (a : ℕ) : Type 0 where
  outside : is_atom 128 a ≡ false → (1 ≤ a → 128 < a) → Zone a
  first : 1 ≤ a → a ≤ 64 → Zone a
  second : 65 ≤ a → a ≤ 128 → Zone a

zone : (a : ℕ) → Zone a
zone a = split (either (leb 1 a)) (either (leb a 128)) (either (leb a 64))
  where
    split :
        (leb 1 a ≡ true) ⊎ (leb 1 a ≡ false) → (leb a 128 ≡ true) ⊎ (leb a 128 ≡ false) →
        (leb a 64 ≡ true) ⊎ (leb a 64 ≡ false) → Zone a
    split (inr z) h m = let none = leb-false 1 a z in outside (rw z) (λ p. absurd (omega arith))
    split (inl l) (inr h) m = outside (rw (l, h)) (λ p. leb-false a 128 h)
    split (inl l) (inl h) (inl m) = first (leb-true 1 a l) (leb-true a 64 m)
    split (inl l) (inl h) (inr m) = second (leb-false a 64 m) (leb-true a 128 h)

pub has-outside : (words : List ℕ) (a : ℕ) → is_atom 128 a ≡ false → has words a ≡ false
unfolding has
has-outside words a e = rw e

pub has_first : (words : List ℕ) (a : ℕ) → 1 ≤ a → a ≤ 64 → has words a ≡ bit (get_or words 0 0) (a - 1)
unfolding has
has_first words a l h =
    let atom = atom-of 128 a l (omega arith) in
    let word : (a - 1) / 64 ≡ 0 = omega arith in
    let place : (a - 1) % 64 ≡ a - 1 = omega arith in
    rw (atom, word, place)

pub has-second : (words : List ℕ) (a : ℕ) → 65 ≤ a → a ≤ 128 → has words a ≡ bit (get_or words 1 0) (a - 65)
unfolding has
has-second words a l h =
    let atom = atom-of 128 a (omega arith) h in
    let word : (a - 1) / 64 ≡ 1 = omega arith in
    let place : (a - 1) % 64 ≡ a - 65 = omega arith in
    rw (atom, word, place)

pub has-atom :
    (words : List ℕ) (a : ℕ) → 1 ≤ a → a ≤ 128 → bit (get_or words ((a - 1) / 64) 0) ((a - 1) % 64) ≡ has words a
unfolding has
has-atom words a l h = rw (atom-of 128 a l h)

-- the atom of bit j of word k
pub has_word : (words : List ℕ) (k j : ℕ) → k < 2 → j < 64 → has words (64 * k + j + 1) ≡ bit (get_or words k 0) j
unfolding has
has_word words k j hk hj =
    let atom = atom-of 128 (64 * k + j + 1) (omega arith) (omega arith) in
    let word : (64 * k + j + 1 - 1) / 64 ≡ k = omega arith in
    let place : (64 * k + j + 1 - 1) % 64 ≡ j = omega arith in
    rw (atom, word, place)

-- Only the atoms from 1 to 128 are in sets
pub has-range : (words : List ℕ) (a : ℕ) → has words a ≡ true → (1 ≤ a) × (a ≤ 128)
unfolding has
has-range words a e =
    let atom = (and_parts (is_atom 128 a) (bit (get_or words ((a - 1) / 64) 0) ((a - 1) % 64)) e).0 in
    let parts = and_parts (leb 1 a) (leb a 128) atom in
    (leb-true 1 a parts.0, leb-true a 128 parts.1)

-- a set of two words, by the places of its atoms
by-zone :
    (words : List ℕ) (a : ℕ) (t : Bool) → ((1 ≤ a → 128 < a) → t ≡ false) →
    (1 ≤ a → a ≤ 64 → bit (get_or words 0 0) (a - 1) ≡ t) →
    (65 ≤ a → a ≤ 128 → bit (get_or words 1 0) (a - 65) ≡ t) → has words a ≡ t
by-zone words a t out low high = split (zone a)
  where
    split : Zone a → has words a ≡ t
    split (outside e o) = has-outside words a e ∙ sym (out o)
    split (first l h) = has_first words a l h ∙ low l h
    split (second l h) = has-second words a l h ∙ high l h

-- an operation on each of the two words
abbrev wordwise : (ℕ → ℕ → ℕ) → List ℕ → List ℕ → List ℕ
wordwise op x y = op (get_or x 0 0) (get_or y 0 0) ∷ op (get_or x 1 0) (get_or y 1 0) ∷ []

-- one that works place by place
module _ (op : ℕ → ℕ → ℕ) (test : Bool → Bool → Bool) (none : test false false ≡ false)
    (same : (x y k : ℕ) → bit (op x y) k ≡ test (bit x k) (bit y k)) where
  has_both : (x y : List ℕ) (a : ℕ) → has (wordwise op x y) a ≡ test (has x a) (has y a)
  has_both x y a = split (zone a)
    where
      split : Zone a → has (wordwise op x y) a ≡ test (has x a) (has y a)
      split (outside e o) =
          has-outside (wordwise op x y) a e ∙ sym none ∙
          ap₂ test (sym (has-outside x a e)) (sym (has-outside y a e))
      split (first l h) =
          has_first (wordwise op x y) a l h ∙ same (get_or x 0 0) (get_or y 0 0) (a - 1) ∙
          ap₂ test (sym (has_first x a l h)) (sym (has_first y a l h))
      split (second l h) =
          has-second (wordwise op x y) a l h ∙ same (get_or x 1 0) (get_or y 1 0) (a - 65) ∙
          ap₂ test (sym (has-second x a l h)) (sym (has-second y a l h))

pub has-union : (x y : List ℕ) (a : ℕ) → has (wordwise bit_or x y) a ≡ (has x a || has y a)
has-union = has_both bit_or (λ p q. p || q) refl bit-or

pub has-intersection : (x y : List ℕ) (a : ℕ) → has (wordwise bit_and x y) a ≡ (has x a && has y a)
has-intersection = has_both bit_and (λ p q. p && q) refl bit-and

pub has-minus :
    (x y : List ℕ) (a : ℕ) → has (wordwise (λ m n. m - bit_and m n) x y) a ≡ (has x a && not (has y a))
has-minus = has_both (λ m n. m - bit_and m n) (λ p q. p && not q) refl bit-less

pub has-empty : (a : ℕ) → has (0 ∷ 0 ∷ []) a ≡ false
has-empty a = by-zone (0 ∷ 0 ∷ []) a false (λ o. refl) (λ l h. bit-none (a - 1)) (λ l h. bit-none (a - 65))

-- one atom

-- `1 << i` as the code has it
pub shifted_one : (i : ℕ) → i < 64 → 1 * 2 ^ i % 18446744073709551616 ≡ 2 ^ i
shifted_one i h = shl_exact {a = 1} 1 i 64 (omega arith) (omega arith) ∙ one-mul (2 ^ i)

eqb-less : (a v d : ℕ) → d ≤ a → d ≤ v → eqb (a - d) (v - d) ≡ eqb a v
eqb-less a v d ha hv =
    same_test (eqb (a - d) (v - d)) (eqb a v) (λ e. up (eqb-true (a - d) (v - d) e)) (λ e. down (eqb-true a v e))
  where
    up : a - d ≡ v - d → eqb a v ≡ true
    up e = eq-eqb a v (omega arith)

    down : a ≡ v → eqb (a - d) (v - d) ≡ true
    down e = eq-eqb (a - d) (v - d) (omega arith)

pub has-single-first : (v : ℕ) → 1 ≤ v → v ≤ 64 → (a : ℕ) → has (2 ^ (v - 1) ∷ 0 ∷ []) a ≡ eqb a v
has-single-first v l h a =
    by-zone (2 ^ (v - 1) ∷ 0 ∷ []) a (eqb a v) (λ o. ne_eqb a v (λ e. far o e))
    (λ la ha. bit-power (v - 1) (a - 1) ∙ eqb-less a v 1 la l)
    (λ la ha. bit-none (a - 65) ∙ sym (ne_eqb a v (λ e. omega arith)))
  where
    far : (1 ≤ a → 128 < a) → a ≡ v → ⊥
    far o e = let beyond : 128 < a = o (omega arith) in omega arith

pub has-single-second : (v : ℕ) → 65 ≤ v → v ≤ 128 → (a : ℕ) → has (0 ∷ 2 ^ (v - 65) ∷ []) a ≡ eqb a v
has-single-second v l h a =
    by-zone (0 ∷ 2 ^ (v - 65) ∷ []) a (eqb a v) (λ o. ne_eqb a v (λ e. far o e))
    (λ la ha. bit-none (a - 1) ∙ sym (ne_eqb a v (λ e. omega arith)))
    (λ la ha. bit-power (v - 65) (a - 65) ∙ eqb-less a v 65 la l)
  where
    far : (1 ≤ a → 128 < a) → a ≡ v → ⊥
    far o e = let beyond : 128 < a = o (omega arith) in omega arith

-- the atoms up to n

not-atom : (n a : ℕ) → n ≤ 128 → (1 ≤ a → 128 < a) → is_atom n a ≡ false
not-atom n a h o = false_of (is_atom n a) (λ e. far (and_parts (leb 1 a) (leb a n) e))
  where
    far : (leb 1 a ≡ true) × (leb a n ≡ true) → ⊥
    far p =
        let beyond : 128 < a = o (leb-true 1 a p.0) in
        let within : a ≤ n = leb-true a n p.1 in
        omega arith

atom-upper : (n a : ℕ) → 1 ≤ a → is_atom n a ≡ leb a n
atom-upper n a l = rw (le-leb 1 a l)

ltb-less : (a n d k : ℕ) → suc d ≤ a → d + k ≡ n → ltb (a - suc d) k ≡ leb a n
ltb-less a n d k l e =
    same_test (ltb (a - suc d) k) (leb a n) (λ t. up (ltb-true (a - suc d) k t)) (λ t. down (leb-true a n t))
  where
    up : a - suc d < k → leb a n ≡ true
    up h = le-leb a n (omega arith)

    down : a ≤ n → ltb (a - suc d) k ≡ true
    down h = lt-ltb (a - suc d) k (omega arith)

pub has-up-to-first : (n : ℕ) → n ≤ 64 → (a : ℕ) → has ((2 ^ n - 1) ∷ 0 ∷ []) a ≡ is_atom n a
has-up-to-first n h a =
    by-zone ((2 ^ n - 1) ∷ 0 ∷ []) a (is_atom n a) (λ o. not-atom n a (omega arith) o)
    (λ la ha. bit-ones n (a - 1) ∙ ltb-less a n 0 n la (omega arith) ∙ sym (atom-upper n a la))
    (λ la ha. bit-none (a - 65) ∙ sym (lt-leb a n (omega arith)) ∙ sym (atom-upper n a (omega arith)))

pub has-up-to-second :
    (n : ℕ) → 64 ≤ n → n ≤ 128 → (a : ℕ) → has ((2 ^ 64 - 1) ∷ (2 ^ (n - 64) - 1) ∷ []) a ≡ is_atom n a
has-up-to-second n l h a =
    by-zone ((2 ^ 64 - 1) ∷ (2 ^ (n - 64) - 1) ∷ []) a (is_atom n a) (λ o. not-atom n a h o)
    (λ la ha. bit-ones 64 (a - 1) ∙ ltb-less a 64 0 64 la refl ∙ le-leb a 64 ha ∙ sym (atom-of n a la (omega arith)))
    (λ la ha. let upper = atom-upper n a (omega arith) in
    bit-ones (n - 64) (a - 65) ∙ ltb-less a n 64 (n - 64) la (omega arith) ∙ sym upper)

-- emptiness, and the lowest atom

pub empty-none : (words : List ℕ) → holds_none words ≡ true → (a : ℕ) → has words a ≡ false
unfolding holds_none
empty-none words e a =
    let parts = and_parts (eqb (get_or words 0 0) 0) (eqb (get_or words 1 0) 0) e in
    let w0 : get_or words 0 0 ≡ 0 = eqb-true (get_or words 0 0) 0 parts.0 in
    let w1 : get_or words 1 0 ≡ 0 = eqb-true (get_or words 1 0) 0 parts.1 in
    by-zone words a false (λ o. refl) (λ l h. ap (λ (n : ℕ). bit n (a - 1)) w0 ∙ bit-none (a - 1))
    (λ l h. ap (λ (n : ℕ). bit n (a - 65)) w1 ∙ bit-none (a - 65))

-- A set with an atom is not empty
pub some-not-empty : (words : List ℕ) (a : ℕ) → has words a ≡ true → holds_none words ≡ false
some-not-empty words a e = false_of (holds_none words) (λ t. clash (has words a) e (empty-none words t a))

-- the lowest bit of word k is the lowest atom, where the words before it are 0
lowest-word :
    (words : List ℕ) (k j : ℕ) → k < 2 → ((w : ℕ) → w < k → get_or words w 0 ≡ 0) → LowestBit (get_or words k 0) j →
    Lowest words (64 * k + j + 1)
lowest-word words k j inside zeros b =
    record {
      low = omega arith;
      high = omega (arith, b.below);
      member = has_word words k j inside b.below ∙ b.set;
      least = λ a e. least a (has-range words a e) e;
    }
  where
    least : (a : ℕ) → (1 ≤ a) × (a ≤ 128) → has words a ≡ true → 64 * k + j + 1 ≤ a
    least a (low, high) e = split (either (ltb w k)) (either (eqb w k))
      where
        w : ℕ
        w = (a - 1) / 64

        i : ℕ
        i = (a - 1) % 64

        set : bit (get_or words w 0) i ≡ true
        set = has-atom words a low high ∙ e

        split :
            (ltb w k ≡ true) ⊎ (ltb w k ≡ false) → (eqb w k ≡ true) ⊎ (eqb w k ≡ false) → 64 * k + j + 1 ≤ a
        split (inl l) q =
            let none : bit (get_or words w 0) i ≡ false = rw (zeros w (ltb-true w k l)) (bit-none i) in
            absurd (clash (bit (get_or words w 0) i) set none)
        split (inr l) (inl q) =
            let same : w ≡ k = eqb-true w k q in
            let up : j ≤ i = b.least i (rw same at set) in
            omega arith
        split (inr l) (inr q) =
            let above = ltb-false w k l in
            let other = eqb-false w k q in
            omega (arith, b.below)

pub lowest-first : (words : List ℕ) (j : ℕ) → LowestBit (get_or words 0 0) j → Lowest words (j + 1)
lowest-first words j b =
    let same : 64 * 0 + j + 1 ≡ j + 1 = omega arith in
    rw same at (lowest-word words 0 j (omega arith) (λ w h. absurd (omega arith)) b)

pub lowest-second : (words : List ℕ) (j : ℕ) → get_or words 0 0 ≡ 0 → LowestBit (get_or words 1 0) j →
    Lowest words (j + 65)
lowest-second words j z b =
    let same : 64 * 1 + j + 1 ≡ j + 65 = omega arith in
    rw same at (lowest-word words 1 j (omega arith) (λ w h. let first : w ≡ 0 = omega arith in rw first z) b)

pub lowest-in : (word : ℕ) → (word ≡ 0 → ⊥) → word < 2 ^ 64 → LowestBit word (count_trailing_zeros 64 word)
lowest-in word z h = record { below = zeros.0; set = eq-eqb _ _ zeros.1; least = least }
  where
    zeros :
        (count_trailing_zeros 64 word < 64) × (bit_at word (count_trailing_zeros 64 word) ≡ 1) ×
        ((i : ℕ) → i < count_trailing_zeros 64 word → bit_at word i ≡ 0)
    zeros = bit_at-trailing_zeros w64 word (omega arith) h

    least : (i : ℕ) → bit word i ≡ true → count_trailing_zeros 64 word ≤ i
    least i b = elim (either (ltb i (count_trailing_zeros 64 word))) [
      | inl t ↦
          let none : bit word i ≡ false = rw (zeros.2 i (ltb-true _ _ t)) in
          absurd (clash (bit word i) b none)
      | inr f ↦ ltb-false _ _ f
    ]

pub second_word : (words : List ℕ) → holds_none words ≡ false → get_or words 0 0 ≡ 0 → get_or words 1 0 ≡ 0 → ⊥
unfolding holds_none
second_word words e z0 z1 =
    let both : holds_none words ≡ true = rw (eq-eqb (get_or words 0 0) 0 z0, eq-eqb (get_or words 1 0) 0 z1) in
    clash (holds_none words) both e

-- the test of emptiness

two-zeros : (words : List ℕ) → length words ≡ 2 → pointwise eqb words (0 ∷ 0 ∷ []) ≡ holds_none words
unfolding holds_none
two-zeros [] e = absurd (omega arith)
two-zeros (x ∷ []) e = absurd (omega arith)
two-zeros (x ∷ y ∷ []) e = rw (and-true (eqb y 0))
two-zeros (x ∷ y ∷ z ∷ rest) e = absurd (omega arith)

some-atom :
    (words : List ℕ) → ((i : ℕ) → get_or words i 0 < 2 ^ 64) → holds_none words ≡ false →
    (a : ℕ) × (has words a ≡ true)
some-atom words fits some = split (either (eqb (get_or words 0 0) 0))
  where
    split :
        (eqb (get_or words 0 0) 0 ≡ true) ⊎ (eqb (get_or words 0 0) 0 ≡ false) → (a : ℕ) × (has words a ≡ true)
    split (inl z) =
        let first = eqb-true (get_or words 0 0) 0 z in
        let low = lowest-in (get_or words 1 0) (second_word words some first) (fits 1) in
        let j = count_trailing_zeros 64 (get_or words 1 0) in
        (j + 65, (lowest-second words j first low).member)
    split (inr d) =
        let low = lowest-in (get_or words 0 0) (eqb-false (get_or words 0 0) 0 d) (fits 0) in
        let j = count_trailing_zeros 64 (get_or words 0 0) in
        (j + 1, (lowest-first words j low).member)

pub emptiness :
    (words : List ℕ) → length words ≡ 2 → ((i : ℕ) → get_or words i 0 < 2 ^ 64) → {answer : Bool} →
    answer ≡ pointwise eqb words (0 ∷ 0 ∷ []) → Emptiness words answer
emptiness words two fits e =
    let same = e ∙ two-zeros words two in
    record {
      test = same;
      none = λ yes. empty-none words (sym same ∙ yes);
      some = λ no. some-atom words fits (sym same ∙ no);
    }

-- what the answer tells, to be found by `search`
pub none_of : {words : List ℕ} {answer : Bool} → Emptiness words answer → answer ≡ true → (a : ℕ) → has words a ≡ false
none_of e = e.none

-- the set without its lowest atom, by the word that has it

pub lowest-one : {words : List ℕ} {u v : ℕ} → Lowest words u → Lowest words v → u ≡ v
lowest-one {words} {u} {v} l m =
    let up : u ≤ v = l.least v m.member in
    let down : v ≤ u = m.least u l.member in
    omega arith

-- bit j of word k is the lowest, and goes; the other word is kept
pub record Cleared (words rest : List ℕ) (k j : ℕ) : Type 0 where
  pub inside : k < 2
  pub lowest : LowestBit (get_or words k 0) j
  pub goes : get_or rest k 0 ≡ bit_and (get_or words k 0) (get_or words k 0 - 1)
  pub kept : (w : ℕ) → w < 2 → (w ≡ k → ⊥) → get_or rest w 0 ≡ get_or words w 0

module _ {words rest : List ℕ} {k j v : ℕ} (c : Cleared words rest k j) (is-v : v ≡ 64 * k + j + 1) where
  -- at the place of an atom: its word and its bit
  cleared-place :
      (a : ℕ) → 1 ≤ a → a ≤ 128 → (w i : ℕ) → a ≡ 64 * w + i + 1 → i < 64 → Dec (w ≡ k) →
      bit (get_or rest w 0) i ≡ (bit (get_or words w 0) i && not (eqb a v))
  cleared-place a l h w i at below (yes e) =
      let low = c.lowest in
      let gone = bit-cleared (get_or words k 0) j low.set low.least i in
      let same = same_test (eqb i j) (eqb a v) (λ q. to (eqb-true i j q)) (λ q. from (eqb-true a v q)) in
      rw (e, c.goes, gone, same)
    where
      to : i ≡ j → eqb a v ≡ true
      to q = eq-eqb a v (omega arith)

      from : a ≡ v → eqb i j ≡ true
      from q = eq-eqb i j (omega (arith, c.lowest.below))
  cleared-place a l h w i at below (no d) =
      let other : eqb a v ≡ false = ne_eqb a v (λ q. d (omega (arith, c.lowest.below))) in
      ap (λ (n : ℕ). bit n i) (c.kept w (omega arith) d) ∙ sym (and-true (bit (get_or words w 0) i)) ∙
      ap (λ (q : Bool). bit (get_or words w 0) i && not q) (sym other)

  has-cleared : (a : ℕ) → has rest a ≡ (has words a && not (eqb a v))
  has-cleared a = split (zone a)
    where
      inner : 1 ≤ a → a ≤ 128 → has rest a ≡ (has words a && not (eqb a v))
      inner l h =
          let w = (a - 1) / 64 in
          let i = (a - 1) % 64 in
          sym (has-atom rest a l h) ∙ cleared-place a l h w i (omega arith) (omega arith) (ℕ_discrete w k) ∙
          ap (λ (t : Bool). t && not (eqb a v)) (has-atom words a l h)

      split : Zone a → has rest a ≡ (has words a && not (eqb a v))
      split (outside e o) =
          has-outside rest a e ∙ sym (ap (λ (t : Bool). t && not (eqb a v)) (has-outside words a e))
      split (first l h) = inner l (omega arith)
      split (second l h) = inner (omega arith) h

cleared-left :
    {words rest : List ℕ} {k j : ℕ} → Cleared words rest k j → Lowest words (64 * k + j + 1) → LowestLeft words rest
cleared-left c m = record { taken = _; lowest = m; others = λ v l. has-cleared c (lowest-one l m) }

pub left-first :
    (words : List ℕ) → (get_or words 0 0 ≡ 0 → ⊥) → get_or words 0 0 < 2 ^ 64 →
    LowestLeft words (bit_and (get_or words 0 0) (get_or words 0 0 - 1) ∷ get_or words 1 0 ∷ [])
left-first words z h = cleared-left cleared (lowest-word words 0 _ (omega arith) (λ w b. absurd (omega arith)) low)
  where
    low : LowestBit (get_or words 0 0) (count_trailing_zeros 64 (get_or words 0 0))
    low = lowest-in (get_or words 0 0) z h

    rest : List ℕ
    rest = bit_and (get_or words 0 0) (get_or words 0 0 - 1) ∷ get_or words 1 0 ∷ []

    kept : (w : ℕ) → w < 2 → (w ≡ 0 → ⊥) → get_or rest w 0 ≡ get_or words w 0
    kept w b d = let second : w ≡ 1 = omega arith in rw second

    cleared : Cleared words rest 0 (count_trailing_zeros 64 (get_or words 0 0))
    cleared = record { inside = omega arith; lowest = low; goes = refl; kept = kept }

pub left_second :
    (words : List ℕ) → get_or words 0 0 ≡ 0 → (get_or words 1 0 ≡ 0 → ⊥) → get_or words 1 0 < 2 ^ 64 →
    LowestLeft words (0 ∷ bit_and (get_or words 1 0) (get_or words 1 0 - 1) ∷ [])
left_second words none z h =
    cleared-left cleared (lowest-word words 1 _ (omega arith) (λ w b. let at : w ≡ 0 = omega arith in rw at none) low)
  where
    low : LowestBit (get_or words 1 0) (count_trailing_zeros 64 (get_or words 1 0))
    low = lowest-in (get_or words 1 0) z h

    rest : List ℕ
    rest = 0 ∷ bit_and (get_or words 1 0) (get_or words 1 0 - 1) ∷ []

    kept : (w : ℕ) → w < 2 → (w ≡ 1 → ⊥) → get_or rest w 0 ≡ get_or words w 0
    kept w b d = let at : w ≡ 0 = omega arith in rw at (sym none)

    cleared : Cleared words rest 1 (count_trailing_zeros 64 (get_or words 1 0))
    cleared = record { inside = omega arith; lowest = low; goes = refl; kept = kept }

-- at most one atom

-- the set has an atom, and the answer is whether the rest has none
module _ {words rest : List ℕ} {answer : Bool} {v : ℕ} (l : Lowest words v) (r : LowestLeft words rest)
    (e : Emptiness rest answer) where
  only-lowest : answer ≡ true → (a : ℕ) → has words a ≡ true → a ≡ v
  only-lowest none a h = split (either (eqb a v))
    where
      split : (eqb a v ≡ true) ⊎ (eqb a v ≡ false) → a ≡ v
      split (inl q) = eqb-true a v q
      split (inr q) =
          let stays = r.others v l a ∙ and_both (has words a) (not (eqb a v)) h (not-of (eqb a v) q) in
          absurd (clash (has rest a) stays (e.none none a))

  other-atom : answer ≡ false → (u w : ℕ) × (has words u ≡ true) × (has words w ≡ true) × (u ≡ w → ⊥)
  other-atom some =
      let (a, stays) = e.some some in
      let parts = and_parts (has words a) (not (eqb a v)) (sym (r.others v l a) ∙ stays) in
      (a, v, parts.0, l.member, λ q. clash (not (eqb a v)) parts.1 (ap not (eq-eqb a v q)))

  pub sole-rest : AtMostOne words answer
  sole-rest =
      record {
        sole = λ none u w a b. only-lowest none u a ∙ sym (only-lowest none w b);
        two = other-atom;
      }

-- ---- the lowest atom alone, and whether it is in another set

-- `shared` has it if the other set does
pub lowest-shared :
    (other : ℕ → Bool) {alone : ℕ → Bool} {shared : List ℕ} {none : Bool} {v : ℕ} → ((u : ℕ) → alone u ≡ eqb u v) →
    ((u : ℕ) → has shared u ≡ (other u && alone u)) → Emptiness shared none → not none ≡ other v
lowest-shared other {alone} {shared} {none} {v} alone_is shared-is empty = go (either none)
  where
    go : (none ≡ true) ⊎ (none ≡ false) → not none ≡ other v
    go (inl e) =
        rw e
        (sym (empty.none e v) ∙ shared-is v ∙ rw (alone_is v, eq-eqb v v refl) (and-true (other v)))
    go (inr e) =
        let (u, held) = empty.some e in
        let (in-other, in-alone) = and_parts (other u) (alone u) (sym (shared-is u) ∙ held) in
        rw (e, ← eqb-true u v (sym (alone_is u) ∙ in-alone)) (sym in-other)
