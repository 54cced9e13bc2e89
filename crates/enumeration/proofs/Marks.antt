-- The members still to be tried from a place are those that follow it.
-- All words, cut at the place: none before the cut follows it and all after it do.
use Prim.Native.Nat.{ℕ, zero, suc, ◌+◌, ◌-◌, ◌≤◌, ◌<◌}
use native.Mathlib.Omega.{arith}
use mathlib.Core.Path.{◌≡◌, refl, sym, ap, ◌∙◌}
use mathlib.Core.Logic.{◌⊎◌, inl, inr}
use mathlib.Core.Bool.{Bool, true, false, ◌||◌, ◌&&◌}
use mathlib.Core.List.Memᴰ
use mathlib.Core.List.{List, [], ◌∷◌, ◌++◌, reverse, reverse_aux, append_assoc, append-nil, Memᴰ}
use lib.ListN.{length}
use lib.Dec.{ltb, eqb}
use borrow.Author.Tests.{ltb-true, leb-true, eqb-true, lt-ltb, le-ltb, le-leb, lt-leb, eq-eqb, ne_eqb}
use Rattle.enumeration.specs.Words.{Family, earlier, begins, numbers_from, joined, words, keep, members, is_open}
use Rattle.enumeration.specs.Listing.{goes_from, past, follows, opens, open_words}
use Rattle.enumeration.specs.Lawful.{Lawful}
use Rattle.enumeration.proofs.Basics.{apart, and_both, or-either, or_right, compared, less, same, more, keep_append, keep-none, keep_all, keep-swap, joined-append, joined-mem, from-mem}
use Rattle.enumeration.proofs.Order.{earlier-cases, earlier-less, earlier-same, irreflexive}
use Rattle.enumeration.proofs.Stream.{upto, always, turn, level, later, rest, upto-one, level-cons, branch-level, turn-mem, keep-rest, words-root}
use Rattle.enumeration.proofs.Open.{begins-open, begins-opened, stack-short, stack_top, stack-pop}

-- ---- what the definitions say

-- w begins with p and goes on with an atom that is at least c
pub goes_from-means :
    (p : List ℕ) (c : ℕ) (w : List ℕ) → goes_from p c w ≡ true → (b : ℕ) × (v : List ℕ) × (w ≡ p ++ b ∷ v) × (c ≤ b)
unfolding goes_from
goes_from-means [] c [] e = absurd (apart (sym e))
goes_from-means [] c (b ∷ w) e = (b, w, refl, leb-true c b e)
goes_from-means (a ∷ p) c [] e = absurd (apart (sym e))
goes_from-means (a ∷ p) c (b ∷ w) e =
    let (same-atom, goes_on) = and_both (eqb a b) (goes_from p c w) e in
    let (d, v, shape, high) = goes_from-means p c w goes_on in
    (d, v, cc (eqb-true a b same-atom, shape), high)

pub means-goes_from : (p : List ℕ) (c b : ℕ) (v : List ℕ) → c ≤ b → goes_from p c (p ++ b ∷ v) ≡ true
unfolding goes_from
means-goes_from [] c b v h = le-leb c b h
means-goes_from (a ∷ p) c b v h = rw (eq-eqb a a refl) (means-goes_from p c b v h)

-- w comes later than every list that begins with p
pub past-means : (p w : List ℕ) → past p w ≡ true → (v : List ℕ) → earlier (p ++ v) w ≡ true
unfolding past
past-means [] w e v = absurd (apart (sym e))
past-means (a ∷ p) [] e v = absurd (apart (sym e))
past-means (a ∷ p) (b ∷ w) e v = elim (or-either (ltb a b) (eqb a b && past p w) e) [
  | inl lower ↦ earlier-less a b (p ++ v) w (ltb-true a b lower)
  | inr q ↦
      let (same-atom, past-rest) = and_both (eqb a b) (past p w) q in
      earlier-same a b (p ++ v) w (eqb-true a b same-atom) (past-means p w past-rest v)
]

pub means-past : (p w : List ℕ) → ((v : List ℕ) → earlier (p ++ v) w ≡ true) → past p w ≡ true
unfolding past earlier
means-past [] w h = absurd (irreflexive w (h w))
means-past (a ∷ p) [] h = h []
means-past (a ∷ p) (b ∷ w) h = elim (compared a b) [
  | less q ↦ rw (lt-ltb a b q)
  | same q ↦
      or_right (ltb a b) (eqb a b && past p w)
      (rw (eq-eqb a b q) (means-past p w (λ v. tail_of q v (earlier-cases a b (p ++ v) w (h v)))))
  | more q ↦ absurd (never q (earlier-cases a b (p ++ []) w (h [])))
]
  where
    tail_of : a ≡ b → (v : List ℕ) → (a < b) ⊎ ((a ≡ b) × (earlier (p ++ v) w ≡ true)) → earlier (p ++ v) w ≡ true
    tail_of q v (inl lower) = absurd (omega arith)
    tail_of q v (inr (same-atom, earlier-rest)) = earlier-rest

    never : b < a → (a < b) ⊎ ((a ≡ b) × (earlier (p ++ []) w ≡ true)) → ⊥
    never l (inl lower) = omega arith
    never l (inr (same-atom, earlier-rest)) = omega arith

-- ---- what follows a place

follows-cons :
    (a : ℕ) (p : List ℕ) (c b : ℕ) (w : List ℕ) → follows (a ∷ p) c (b ∷ w) ≡ (ltb a b || eqb a b && follows p c w)
unfolding follows goes_from past
follows-cons a p c b w = go (ltb a b) (eqb a b) (goes_from p c w) (past p w)
  where
    go : (l e g q : Bool) → (e && g || (l || e && q)) ≡ (l || e && (g || q))
    go true true true q = refl
    go true true false q = refl
    go true false g q = refl
    go false true true q = refl
    go false true false q = refl
    go false false g q = refl

follows-higher : (a : ℕ) (p : List ℕ) (c b : ℕ) (w : List ℕ) → a < b → follows (a ∷ p) c (b ∷ w) ≡ true
follows-higher a p c b w h = follows-cons a p c b w ∙ rw (lt-ltb a b h)

follows-lower : (a : ℕ) (p : List ℕ) (c b : ℕ) (w : List ℕ) → b < a → follows (a ∷ p) c (b ∷ w) ≡ false
follows-lower a p c b w h =
    let l : b ≤ a = omega arith in
    let d : a ≡ b → ⊥ = omega arith in
    follows-cons a p c b w ∙ rw (le-ltb a b l, ne_eqb a b d)

follows_same : (a : ℕ) (p : List ℕ) (c : ℕ) (w : List ℕ) → follows (a ∷ p) c (a ∷ w) ≡ follows p c w
follows_same a p c w =
    let l : a ≤ a = omega arith in
    follows-cons a p c a w ∙ rw (le-ltb a a l, eq-eqb a a refl)

follows-end : (p : List ℕ) (c : ℕ) → follows p c [] ≡ false
unfolding follows goes_from past
follows-end [] c = refl
follows-end (a ∷ p) c = refl

follows_next : (c b : ℕ) (w : List ℕ) → c ≤ b → follows [] c (b ∷ w) ≡ true
unfolding follows goes_from past
follows_next c b w h = rw (le-leb c b h)

follows-before : (c b : ℕ) (w : List ℕ) → b < c → follows [] c (b ∷ w) ≡ false
unfolding follows goes_from past
follows-before c b w h = rw (lt-leb c b h)

follows_on : (p q : List ℕ) (c : ℕ) (w : List ℕ) → follows (reverse_aux p q) c (reverse_aux p w) ≡ follows q c w
follows_on [] q c w = refl
follows_on (a ∷ p) q c w = follows_on p (a ∷ q) c (a ∷ w) ∙ follows_same a q c w

-- ---- the cut

-- what is below p with a next atom lower than c
unfoldable lower : ℕ → List ℕ → ℕ → List (List ℕ)
lower n p c = joined (turn always n p) (numbers_from 1 (c - 1))

-- every word up to p itself
unfoldable before : ℕ → List ℕ → List (List ℕ)
before n [] = [] ∷ []
before n (a ∷ p) = before n p ++ lower n p a ++ reverse (a ∷ p) ∷ []

from-split : (c j k : ℕ) → numbers_from c (j + k) ≡ numbers_from c j ++ numbers_from (c + j) k
unfolding numbers_from
from-split c zero k =
    let e : 0 + k ≡ k = omega arith in
    let f : c + 0 ≡ c = omega arith in
    rw (e, f)
from-split c (suc j) k =
    let e : suc j + k ≡ suc (j + k) = omega arith in
    let f : c + suc j ≡ suc c + j = omega arith in
    rw (e, f, from-split (suc c) j k)

upto-split : (n c : ℕ) → 1 ≤ c → c ≤ suc n → numbers_from 1 n ≡ numbers_from 1 (c - 1) ++ upto n c
unfolding upto
upto-split n c low high =
    let e : c - 1 + (suc n - c) ≡ n = omega arith in
    let f : 1 + (c - 1) ≡ c = omega arith in
    ap (numbers_from 1) (sym e) ∙ from-split 1 (c - 1) (suc n - c) ∙ rw f

level-split : (n : ℕ) (p : List ℕ) (c : ℕ) → 1 ≤ c → c ≤ suc n → level always n p 1 ≡ lower n p c ++ level always n p c
unfolding level lower
level-split n p c low high =
    ap (joined (turn always n p)) (upto-one n ∙ upto-split n c low high) ∙
    joined-append (turn always n p) (numbers_from 1 (c - 1)) (upto n c)

turn_level :
    (n : ℕ) (p : List ℕ) (a : ℕ) → suc (length p) < n →
    turn always n p a ≡ reverse (a ∷ p) ∷ level always n (a ∷ p) 1
unfolding turn
turn_level n p a l =
    let d : n - suc (length p) ≡ suc (n - suc (suc (length p))) = omega arith in
    rw (d, branch-level always n (n - suc (suc (length p))) (a ∷ p) refl)

module _ (F : Family) (L : Lawful F) where
  open F use {atoms as n}

  -- all words are those up to p, those below it and those after them
  words-cut :
      (p : List ℕ) → is_open F (reverse p) ≡ true →
      words n n ≡ before n p ++ (level always n p 1 ++ later always n p)
  unfolding before later
  words-cut [] o = words-root n ∙ rw (append-nil (level always n [] 1))
  words-cut (a ∷ p) o =
      let (low, high) = stack_top F L p a o in
      let h : a ≤ suc n = omega arith in
      let below-p : level always n p 1 ≡ lower n p a ++ level always n p a = level-split n p a low h in
      let from-a : level always n p a ≡ turn always n p a ++ level always n p (suc a) = level-cons always n p a high in
      let at_a = turn_level n p a (stack-short F L p a o) in
      words-cut p (stack-pop F L p a o) ∙ rw (below-p, from-a, at_a) (simp append_assoc)

-- ---- on each side

-- w is p, then an atom b, then perhaps more, where b is lower than c, or at least c
abbrev Lower : List ℕ → ℕ → List ℕ → Type 0
Lower p c w = (b : ℕ) × (v : List ℕ) × (w ≡ reverse_aux p (b ∷ v)) × (b < c)

abbrev AtLeast : List ℕ → ℕ → List ℕ → Type 0
AtLeast p c w = (b : ℕ) × (v : List ℕ) × (w ≡ reverse_aux p (b ∷ v)) × (c ≤ b)

-- the words of one level
level-word :
    (n : ℕ) (p l : List ℕ) {w : List ℕ} → Memᴰ w (joined (turn always n p) l) →
    (b : ℕ) × Memᴰ b l × (v : List ℕ) × (w ≡ reverse_aux p (b ∷ v))
level-word n p l m =
    let (b, of-l, of-turn) = joined-mem (turn always n p) l m in
    let (v, shape) = turn-mem always n p b of-turn in
    (b, of-l, v, shape)

lower_word : (n : ℕ) (p : List ℕ) (c : ℕ) {w : List ℕ} → Memᴰ w (lower n p c) → Lower p c w
unfolding lower
lower_word n p c m =
    let (b, of-l, v, shape) = level-word n p (numbers_from 1 (c - 1)) m in
    (b, v, shape, omega (arith, from-mem 1 (c - 1) of-l))

level-higher : (n : ℕ) (p : List ℕ) (c : ℕ) {w : List ℕ} → Memᴰ w (level always n p c) → AtLeast p c w
unfolding level upto
level-higher n p c m =
    let (b, of-l, v, shape) = level-word n p (numbers_from c (suc n - c)) m in
    (b, v, shape, (from-mem c (suc n - c) of-l).0)

before-not :
    (n : ℕ) (p q : List ℕ) (c : ℕ) (w : List ℕ) → Memᴰ w (before n p) → follows (reverse_aux p q) c w ≡ false
unfolding before
before-not n [] q c w m = ap (follows q c) (Memᴰ.eq_of_singleton m) ∙ follows-end q c
before-not n (a ∷ p) q c w m = elim (Memᴰ.append_cases (before n p ++ lower n p a) m) [
  | inl not-p ↦ elim (Memᴰ.append_cases (before n p) not-p) [
    | inl x ↦ before-not n p (a ∷ q) c w x
    | inr x ↦
        let (b, v, shape, low) = lower_word n p a x in
        ap (follows (reverse_aux p (a ∷ q)) c) shape ∙ follows_on p (a ∷ q) c (b ∷ v) ∙ follows-lower a q c b v low
  ]
  | inr x ↦
      let itself : w ≡ reverse (a ∷ p) = Memᴰ.eq_of_singleton x in
      rw itself (follows_on p (a ∷ q) c (a ∷ []) ∙ follows_same a q c [] ∙ follows-end q c)
]

lower-not : (n : ℕ) (p : List ℕ) (c : ℕ) (w : List ℕ) → Memᴰ w (lower n p c) → follows (reverse p) c w ≡ false
lower-not n p c w m =
    let (b, v, shape, low) = lower_word n p c m in
    ap (follows (reverse p) c) shape ∙ follows_on p [] c (b ∷ v) ∙ follows-before c b v low

level_all :
    (n : ℕ) (p : List ℕ) (c : ℕ) (w : List ℕ) → Memᴰ w (level always n p c) → follows (reverse p) c w ≡ true
level_all n p c w m =
    let (b, v, shape, high) = level-higher n p c m in
    ap (follows (reverse p) c) shape ∙ follows_on p [] c (b ∷ v) ∙ follows_next c b v high

later-all :
    (n : ℕ) (p q : List ℕ) (c : ℕ) (w : List ℕ) → Memᴰ w (later always n p) → follows (reverse_aux p q) c w ≡ true
unfolding later
later-all n [] q c w m = absurd (Memᴰ.not-nil m)
later-all n (a ∷ p) q c w m = elim (Memᴰ.append_cases (level always n p (suc a)) m) [
  | inl x ↦
      let (b, v, shape, high) = level-higher n p (suc a) x in
      ap (follows (reverse_aux p (a ∷ q)) c) shape ∙ follows_on p (a ∷ q) c (b ∷ v) ∙ follows-higher a q c b v high
  | inr x ↦ later-all n p (a ∷ q) c w x
]

-- ---- together

cut-kept :
    (t : List ℕ → Bool) (A B C D : List (List ℕ)) →
    keep t A ≡ [] → keep t B ≡ [] → keep t C ≡ C → keep t D ≡ D →
    keep t (A ++ (B ++ C ++ D)) ≡ C ++ D
cut-kept t A B C D a b c d = simp (keep_append, a, b, c, d)

module _ (F : Family) (L : Lawful F) where
  open F use {atoms as n}

  words-follow :
      (p : List ℕ) (c : ℕ) → is_open F (reverse p) ≡ true → 1 ≤ c → c ≤ suc n →
      keep (follows (reverse p) c) (words n n) ≡ rest always n p c
  unfolding rest
  words-follow p c o low high =
      let t = follows (reverse p) c in
      rw (words-cut F L p o, level-split n p c low high)
      (cut-kept t (before n p) (lower n p c) (level always n p c) (later always n p)
      (keep-none t (before n p) (before-not n p [] c))
      (keep-none t (lower n p c) (lower-not n p c))
      (keep_all t (level always n p c) (level_all n p c))
      (keep_all t (later always n p) (later-all n p [] c)))

  kept-follow :
      (t : List ℕ → Bool) → ((q w : List ℕ) → t w ≡ true → begins q w ≡ true → is_open F q ≡ true) →
      (p : List ℕ) (c : ℕ) → is_open F (reverse p) ≡ true → 1 ≤ c → c ≤ suc n →
      keep t (rest (is_open F) n p c) ≡ keep (follows (reverse p) c) (keep t (words n n))
  kept-follow t shown p c o low high =
      keep-rest (is_open F) t shown n p c ∙
      ap (keep t) (sym (words-follow p c o low high)) ∙
      keep-swap t (follows (reverse p) c) (words n n)

  -- the members of the stream from a place on are the members that follow it
  pub members-follow :
      (p : List ℕ) (c : ℕ) → is_open F (reverse p) ≡ true → 1 ≤ c → c ≤ suc n →
      keep F.member (rest (is_open F) n p c) ≡ keep (follows (reverse p) c) (members F)
  unfolding members
  members-follow = kept-follow F.member (λ q w e b. begins-open F L q w e b)

  -- and its open words are the open words that follow it
  pub opens-follow :
      (p : List ℕ) (c : ℕ) → is_open F (reverse p) ≡ true → 1 ≤ c → c ≤ suc n →
      keep (opens F) (rest (is_open F) n p c) ≡ keep (follows (reverse p) c) (open_words F)
  unfolding open_words
  opens-follow = kept-follow (opens F) (λ q w e b. begins-opened F L q w e b)
