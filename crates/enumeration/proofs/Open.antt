-- Members are exactly the words that are listed; open words are their beginnings: shorter than n, in range, no members.
-- From the laws of a family.
use Prim.Native.Nat.{ℕ, zero, suc, ◌-◌, ◌≤◌, ◌<◌}
use native.Mathlib.Omega.{arith}
use mathlib.Core.Path.{◌≡◌, refl, sym, ◌∙◌}
use mathlib.Core.Bool.{Bool, true, false, not}
use mathlib.Core.List.{List, [], ◌∷◌, reverse, reverse_aux, append-nil, Memᴰ}
use lib.ListN.{length, get_or, length-reverse}
use borrow.Author.Tests.{not-true}
use Rattle.enumeration.specs.Words.{Family, begins, words, keep, any, members, is_open}
use Rattle.enumeration.specs.Machine.{is_empty}
use Rattle.enumeration.specs.Listing.{Ascending, NoRepeats, opens, open_words}
use Rattle.enumeration.specs.Lawful.{Lawful}
use Rattle.enumeration.proofs.Basics.{apart, and_both, not-true-false, keep-mem, mem-keep, keep-false, any-mem, mem-any}
use Rattle.enumeration.proofs.Order.{InRange, range_at, words-complete, ascending-words, ascending-keep, ascending-once, begins-shorter, begins-range, begins-transitive}
use Rattle.enumeration.proofs.Stream.{begins-on, level, always, rest, later, keep-rest, words-root}

-- ---- words

-- an atom list in range is in range past any beginning of it
pub range-on : (n : ℕ) (p v : List ℕ) → InRange n (reverse_aux p v) → InRange n v
range-on n [] v r = r
range-on n (a ∷ p) v r = let (low, high, range) = range-on n p (a ∷ v) r in range

-- a word with an atom is not empty
pub filled : (p : List ℕ) (a : ℕ) (v : List ℕ) → is_empty (reverse_aux p (a ∷ v)) ≡ false
unfolding is_empty
filled [] a v = refl
filled (b ∷ p) a v = filled p b (a ∷ v)

-- the stream from the start, with every gate open, is every word but the empty one
pub all-kept : (t : List ℕ → Bool) (n : ℕ) → t [] ≡ false → keep t (rest always n [] 1) ≡ keep t (words n n)
unfolding rest later
all-kept t n e = rw (words-root n, append-nil (level always n [] 1)) (sym (keep-false t [] (level always n [] 1) e))

-- ---- any family

module _ (F : Family) where
  open F use {atoms as n, member}

  opens-open : (w : List ℕ) → is_empty w ≡ false → opens F w ≡ is_open F w
  unfolding opens is_open is_empty
  opens-open [] e = absurd (apart e)
  opens-open (a ∷ w) e = refl

  pub tried_open : (p : List ℕ) (a : ℕ) → opens F (reverse (a ∷ p)) ≡ is_open F (reverse (a ∷ p))
  tried_open p a = opens-open (reverse (a ∷ p)) (filled p a [])

  opens-any : (w : List ℕ) → opens F w ≡ true → any (begins w) (members F) ≡ true
  unfolding opens
  opens-any w e = let (not-empty, begun) = and_both (not (is_empty w)) (any (begins w) (members F)) e in begun

  pub members-sound : (w : List ℕ) → Memᴰ w (members F) → member w ≡ true
  unfolding members
  members-sound w m = let (listed, passes) = keep-mem member (words n n) m in passes

  -- an open word begins a member
  pub opens-below : (w : List ℕ) → opens F w ≡ true → (m : List ℕ) × (member m ≡ true) × (begins w m ≡ true)
  opens-below w e =
      let (m, of_members, w-begins) = any-mem (begins w) (members F) (opens-any w e) in
      (m, members-sound m of_members, w-begins)

  pub members-ascending : Ascending (members F)
  unfolding members
  members-ascending = ascending-keep member (words n n) (ascending-words n n)

  pub open_words-once : NoRepeats (open_words F)
  unfolding open_words
  open_words-once =
      ascending-once (keep (opens F) (words n n)) (ascending-keep (opens F) (words n n) (ascending-words n n))

  -- an open word that is listed is not empty and begins a member
  pub open_words-sound :
      (q : List ℕ) → Memᴰ q (open_words F) →
      (is_empty q ≡ false) × (m : List ℕ) × (member m ≡ true) × (begins q m ≡ true)
  unfolding open_words opens
  open_words-sound q h =
      let (listed, opened) = keep-mem (opens F) (words n n) h in
      let (not-empty, begun) = and_both (not (is_empty q)) (any (begins q) (members F)) opened in
      let (m, is_member, q-begins) = opens-below q opened in
      (not-true (is_empty q) not-empty, m, is_member, q-begins)

-- ---- a lawful family

module _ (F : Family) (L : Lawful F) where
  open F use {atoms as n, member}

  pub member-range : (w : List ℕ) → member w ≡ true → InRange n w
  member-range w e = range_at n w (L.in_range w e)

  pub members-complete : (w : List ℕ) → member w ≡ true → Memᴰ w (members F)
  unfolding members
  members-complete w e = mem-keep member (words-complete n n w (member-range w e) (L.short w e)) e

  -- a beginning of a member is open
  pub begins-open : (q m : List ℕ) → member m ≡ true → begins q m ≡ true → is_open F q ≡ true
  unfolding is_open
  begins-open [] m e b = refl
  begins-open (a ∷ q) m e b = mem-any (begins (a ∷ q)) (members-complete m e) b

  pub begins-opens : (q m : List ℕ) → is_empty q ≡ false → member m ≡ true → begins q m ≡ true → opens F q ≡ true
  begins-opens q m s e b = opens-open F q s ∙ begins-open q m e b

  pub opens-short : (w : List ℕ) → opens F w ≡ true → length w < n
  opens-short w e =
      let (m, is_member, w-begins) = opens-below F w e in
      omega (arith, begins-shorter w m w-begins, L.short m is_member)

  pub opens-range : (w : List ℕ) → opens F w ≡ true → InRange n w
  opens-range w e =
      let (m, is_member, w-begins) = opens-below F w e in
      begins-range n w m w-begins (member-range m is_member)

  -- a member is not open
  pub member-shut : (w : List ℕ) → member w ≡ true → opens F w ≡ false
  member-shut w e = not-true-false (opens F w) none
    where
      none : opens F w ≡ true → ⊥
      none o = let (m, is_member, w-begins) = opens-below F w o in L.prefix_free w m e is_member w-begins

  -- a beginning of an open word is open
  pub begins-opened : (q w : List ℕ) → opens F w ≡ true → begins q w ≡ true → is_open F q ≡ true
  begins-opened q w e b =
      let (m, is_member, w-begins) = opens-below F w e in
      begins-open q m is_member (begins-transitive q w m b w-begins)

  pub stack-short : (p : List ℕ) (a : ℕ) → is_open F (reverse (a ∷ p)) ≡ true → suc (length p) < n
  stack-short p a e = rw (length-reverse (a ∷ p)) at (opens-short (reverse (a ∷ p)) (tried_open F p a ∙ e))

  pub stack_top : (p : List ℕ) (a : ℕ) → is_open F (reverse (a ∷ p)) ≡ true → (1 ≤ a) × (a ≤ n)
  stack_top p a e =
      let whole = opens-range (reverse (a ∷ p)) (tried_open F p a ∙ e) in
      let (low, high, none) = range-on n p (a ∷ []) whole in
      (low, high)

  pub stack-pop : (p : List ℕ) (a : ℕ) → is_open F (reverse (a ∷ p)) ≡ true → is_open F (reverse p) ≡ true
  unfolding begins
  stack-pop p a e = begins-opened (reverse p) (reverse (a ∷ p)) (tried_open F p a ∙ e) (begins-on p [] (a ∷ []))

  -- an open beginning is shorter than n, each of its atoms from 1 to n
  pub stack-most : (p : List ℕ) → is_open F (reverse p) ≡ true → length p ≤ n - 1
  stack-most [] o = omega arith
  stack-most (a ∷ p) o = omega (arith, stack-short p a o)

  pub stack-range :
      (p : List ℕ) → is_open F (reverse p) ≡ true → (i : ℕ) → i < length p → (1 ≤ get_or p i 0) × (get_or p i 0 ≤ n)
  stack-range [] o i h = absurd (omega arith)
  stack-range (a ∷ p) o zero h = stack_top p a o
  stack-range (a ∷ p) o (suc i) h = stack-range p (stack-pop p a o) i (omega arith)

  -- the open words are the non-empty proper beginnings of members
  pub open_words-complete :
      (q m : List ℕ) → is_empty q ≡ false → member m ≡ true → begins q m ≡ true → Memᴰ q (open_words F)
  unfolding open_words
  open_words-complete q m s e b =
      let o : opens F q ≡ true = begins-opens q m s e b in
      let l : length q ≤ n = omega (arith, opens-short q o) in
      mem-keep (opens F) (words-complete n n q (opens-range q o) l) o

  -- ---- what is kept of the stream from the start is what is kept of all words

  nil-member : member [] ≡ false
  nil-member = not-true-false (member []) (λ e. absurd (omega (arith, L.non_empty [] e)))

  nil-opens : opens F [] ≡ false
  unfolding opens is_empty
  nil-opens = refl

  pub members-stream : keep member (rest (is_open F) n [] 1) ≡ members F
  unfolding members
  members-stream =
      keep-rest (is_open F) member (λ q w e b. begins-open q w e b) n [] 1 ∙ all-kept member n nil-member

  pub opens-stream : keep (opens F) (rest (is_open F) n [] 1) ≡ open_words F
  unfolding open_words
  opens-stream =
      keep-rest (is_open F) (opens F) (λ q w e b. begins-opened q w e b) n [] 1 ∙ all-kept (opens F) n nil-opens
