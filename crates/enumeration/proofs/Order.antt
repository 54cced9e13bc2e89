-- Dictionary order is a strict order, the words of at most k atoms are listed in it, and none is missing.
-- By induction on the words and on k: those that start with a lower atom come first.
use Prim.Native.Nat.{ℕ, zero, suc, ◌+◌, ◌≤◌, ◌<◌}
use native.Mathlib.Omega.{arith}
use mathlib.Core.Path.{◌≡◌, refl, sym, ap, ◌∙◌}
use mathlib.Core.Logic.{◌⊎◌, inl, inr}
use mathlib.Core.Bool.{Bool, true, false, ◌&&◌, cond}
use mathlib.Core.List.{List, [], ◌∷◌, ◌++◌, map, Memᴰ}
use lib.ListN.{length, get_or}
use lib.Dec.{ltb, eqb}
use borrow.Author.Tests.{ltb-true, eqb-true, lt-ltb, eq-eqb}
use Rattle.enumeration.specs.Words.{earlier, begins, numbers_from, joined, words, keep}
use Rattle.enumeration.specs.Listing.{Ascending, NoRepeats}
use Rattle.enumeration.proofs.Basics.{starting, apart, and_both, or-either, or_right, compared, less, same, more, keep-mem, joined-mem, mem-joined, from-mem, mem-from}

-- ---- the order of words

pub earlier-cases :
    (a b : ℕ) (v w : List ℕ) → earlier (a ∷ v) (b ∷ w) ≡ true → (a < b) ⊎ ((a ≡ b) × (earlier v w ≡ true))
unfolding earlier
earlier-cases a b v w e = elim (or-either (ltb a b) (eqb a b && earlier v w) e) [
  | inl lower ↦ inl (ltb-true a b lower)
  | inr q ↦
      let (same-atom, earlier-rest) = and_both (eqb a b) (earlier v w) q in
      inr (eqb-true a b same-atom, earlier-rest)
]

pub earlier-less : (a b : ℕ) (v w : List ℕ) → a < b → earlier (a ∷ v) (b ∷ w) ≡ true
unfolding earlier
earlier-less a b v w h = rw (lt-ltb a b h)

pub earlier-same : (a b : ℕ) (v w : List ℕ) → a ≡ b → earlier v w ≡ true → earlier (a ∷ v) (b ∷ w) ≡ true
unfolding earlier
earlier-same a b v w q e = or_right (ltb a b) (eqb a b && earlier v w) (rw (eq-eqb a b q) e)

-- no word is earlier than itself
pub irreflexive : (w : List ℕ) → earlier w w ≡ true → ⊥
unfolding earlier
irreflexive [] e = apart (sym e)
irreflexive (a ∷ w) e = elim (earlier-cases a a w w e) [
  | inl lower ↦ omega arith
  | inr (same-atom, earlier-rest) ↦ irreflexive w earlier-rest
]

pub transitive : (u v w : List ℕ) → earlier u v ≡ true → earlier v w ≡ true → earlier u w ≡ true
unfolding earlier
transitive [] [] w e f = absurd (apart (sym e))
transitive [] (b ∷ v) [] e f = absurd (apart (sym f))
transitive [] (b ∷ v) (c ∷ w) e f = refl
transitive (a ∷ u) [] w e f = absurd (apart (sym e))
transitive (a ∷ u) (b ∷ v) [] e f = absurd (apart (sym f))
transitive (a ∷ u) (b ∷ v) (c ∷ w) e f = go (transitive u v w) (earlier-cases a b u v e) (earlier-cases b c v w f)
  where
    go :
        (earlier u v ≡ true → earlier v w ≡ true → earlier u w ≡ true) →
        (a < b) ⊎ ((a ≡ b) × (earlier u v ≡ true)) →
        (b < c) ⊎ ((b ≡ c) × (earlier v w ≡ true)) →
        earlier (a ∷ u) (c ∷ w) ≡ true
    go ih (inl p) (inl q) = earlier-less a c u w (omega arith)
    go ih (inl p) (inr (b-is-c, vw)) = earlier-less a c u w (omega arith)
    go ih (inr (a-is-b, uv)) (inl q) = earlier-less a c u w (omega arith)
    go ih (inr (a-is-b, uv)) (inr (b-is-c, vw)) = earlier-same a c u w (a-is-b ∙ b-is-c) (ih uv vw)

-- of two different words one is earlier
pub total : (v w : List ℕ) → (v ≡ w → ⊥) → (earlier v w ≡ true) ⊎ (earlier w v ≡ true)
unfolding earlier
total [] [] d = absurd (d refl)
total [] (b ∷ w) d = inl refl
total (a ∷ v) [] d = inr refl
total (a ∷ v) (b ∷ w) d = elim (compared a b) [
  | less q ↦ inl (earlier-less a b v w q)
  | same q ↦ elim (total v w (λ e. d (cc))) [
    | inl e ↦ inl (earlier-same a b v w q e)
    | inr e ↦ inr (earlier-same b a w v (sym q) e)
  ]
  | more q ↦ inr (earlier-less b a w v q)
]

-- ---- ascending lists

ascending-append :
    (xs ys : List (List ℕ)) → Ascending xs → Ascending ys →
    ((x y : List ℕ) → Memᴰ x xs → Memᴰ y ys → earlier x y ≡ true) → Ascending (xs ++ ys)
ascending-append [] ys p q h = q
ascending-append (x ∷ xs) ys (first, others) q h = (
  λ v m. go v (mathlib.Core.List.Memᴰ.append_cases xs m),
  ascending-append xs ys others q (λ u v m m'. h u v (mathlib.Core.List.Memᴰ.tail m) m'),
)
  where
    go : (v : List ℕ) → Memᴰ v xs ⊎ Memᴰ v ys → earlier x v ≡ true
    go v (inl m) = first v m
    go v (inr m) = h x v (mathlib.Core.List.Memᴰ.head refl) m

pub map-mem :
    (a : ℕ) (ws : List (List ℕ)) {v : List ℕ} → Memᴰ v (map (λ (w : List ℕ). a ∷ w) ws) →
    (u : List ℕ) × Memᴰ u ws × (v ≡ a ∷ u)
map-mem a [] m = absurd (mathlib.Core.List.Memᴰ.not-nil m)
map-mem a (w ∷ ws) m = elim (mathlib.Core.List.Memᴰ.cases_cons m) [
  | inl q ↦ (w, mathlib.Core.List.Memᴰ.head refl, q)
  | inr q ↦ let (u, of-ws, shape) = map-mem a ws q in (u, mathlib.Core.List.Memᴰ.tail of-ws, shape)
]

pub mem-map :
    (a : ℕ) {u : List ℕ} {ws : List (List ℕ)} → Memᴰ u ws → Memᴰ (a ∷ u) (map (λ (w : List ℕ). a ∷ w) ws)
mem-map a (mathlib.Core.List.Memᴰ.head q) = mathlib.Core.List.Memᴰ.head (ap (λ (w : List ℕ). a ∷ w) q)
mem-map a (mathlib.Core.List.Memᴰ.tail m) = mathlib.Core.List.Memᴰ.tail (mem-map a m)

ascending-map : (a : ℕ) (ws : List (List ℕ)) → Ascending ws → Ascending (map (λ (w : List ℕ). a ∷ w) ws)
ascending-map a [] p = tt
ascending-map a (w ∷ ws) (first, others) = (λ v m. go v (map-mem a ws m), ascending-map a ws others)
  where
    go : (v : List ℕ) → (u : List ℕ) × Memᴰ u ws × (v ≡ a ∷ u) → earlier (a ∷ w) v ≡ true
    go v (u, of-ws, shape) = rw shape (earlier-same a a w u refl (first u of-ws))

ascending-joined :
    (f : ℕ → List (List ℕ)) → ((a : ℕ) → Ascending (f a)) →
    ((a b : ℕ) (x y : List ℕ) → a < b → Memᴰ x (f a) → Memᴰ y (f b) → earlier x y ≡ true) →
    (c k : ℕ) → Ascending (joined f (numbers_from c k))
unfolding joined numbers_from
ascending-joined f p h c zero = tt
ascending-joined f p h c (suc k) =
    ascending-append (f c) (joined f (numbers_from (suc c) k)) (p c) (ascending-joined f p h (suc c) k) across
  where
    across : (x y : List ℕ) → Memᴰ x (f c) → Memᴰ y (joined f (numbers_from (suc c) k)) → earlier x y ≡ true
    across x y m m' =
        let (a, of-from, of-fa) = joined-mem f (numbers_from (suc c) k) m' in
        let (higher, bounded) = from-mem (suc c) k of-from in
        h c a x y higher m of-fa

pub ascending-words : (n k : ℕ) → Ascending (words n k)
unfolding words earlier
ascending-words n zero = (λ v m. absurd (mathlib.Core.List.Memᴰ.not-nil m), tt)
ascending-words n (suc k) = (
  first,
  ascending-joined (starting n k) (λ a. ascending-map a (words n k) (ascending-words n k)) later 1 n,
)
  where
    first : (v : List ℕ) → Memᴰ v (joined (starting n k) (numbers_from 1 n)) → earlier [] v ≡ true
    first v m =
        let (a, of-from, started) = joined-mem (starting n k) (numbers_from 1 n) m in
        let (u, of_words, shape) = map-mem a (words n k) started in
        ap (earlier []) shape

    later :
        (a b : ℕ) (x y : List ℕ) → a < b → Memᴰ x (starting n k a) → Memᴰ y (starting n k b) →
        earlier x y ≡ true
    later a b x y l m m' =
        let (u, u-of-words, x-is) = map-mem a (words n k) m in
        let (v, v-of-words, y-is) = map-mem b (words n k) m' in
        cc (x-is, y-is, earlier-less a b u v l)

pub ascending-keep : (t : List ℕ → Bool) (ws : List (List ℕ)) → Ascending ws → Ascending (keep t ws)
unfolding keep
ascending-keep t [] p = tt
ascending-keep t (w ∷ ws) (first, others) = go (t w) (ascending-keep t ws others)
  where
    go : (b : Bool) → Ascending (keep t ws) → Ascending (cond b (w ∷ keep t ws) (keep t ws))
    go true q = (λ v m. first v (keep-mem t ws m).0, q)
    go false q = q

pub ascending-once : (ws : List (List ℕ)) → Ascending ws → NoRepeats ws
ascending-once [] p = tt
ascending-once (w ∷ ws) (first, others) = (λ m. irreflexive w (first w m), ascending-once ws others)

-- ---- which words are listed

-- every atom is from 1 to n
abbrev pub InRange : ℕ → List ℕ → Type 0
InRange n [] = Unit {0}
InRange n (a ∷ w) = (1 ≤ a) × (a ≤ n) × InRange n w

pub range_at : (n : ℕ) (w : List ℕ) → ((i : ℕ) → i < length w → (1 ≤ get_or w i 0) × (get_or w i 0 ≤ n)) → InRange n w
range_at n [] h = tt
range_at n (a ∷ w) h =
    let (low, high) = h 0 (omega arith) in
    (low, high, range_at n w (λ i l. h (suc i) (omega arith)))

pub words-complete : (n k : ℕ) (w : List ℕ) → InRange n w → length w ≤ k → Memᴰ w (words n k)
unfolding words
words-complete n zero [] r l = mathlib.Core.List.Memᴰ.head refl
words-complete n zero (a ∷ w) r l = absurd (omega arith)
words-complete n (suc k) [] r l = mathlib.Core.List.Memᴰ.head refl
words-complete n (suc k) (a ∷ w) (low, high, others) l =
    let d : a < 1 + n = omega arith in
    let s : length w ≤ k = omega arith in
    let started : Memᴰ (a ∷ w) (starting n k a) = mem-map a (words-complete n k w others s) in
    mathlib.Core.List.Memᴰ.tail (mem-joined (starting n k) (mem-from 1 n a low d) started)

-- ---- beginnings

pub begins-shorter : (v w : List ℕ) → begins v w ≡ true → length v < length w
unfolding begins
begins-shorter [] [] e = absurd (apart (sym e))
begins-shorter [] (b ∷ w) e = omega arith
begins-shorter (a ∷ v) [] e = absurd (apart (sym e))
begins-shorter (a ∷ v) (b ∷ w) e = omega (arith, begins-shorter v w (and_both (eqb a b) (begins v w) e).1)

-- where q begins m, m is q, then an atom, then perhaps more
pub begins-rest : (q m : List ℕ) → begins q m ≡ true → (b : ℕ) × (v : List ℕ) × (m ≡ q ++ b ∷ v)
unfolding begins
begins-rest [] [] e = absurd (apart (sym e))
begins-rest [] (b ∷ m) e = (b, m, refl)
begins-rest (a ∷ q) [] e = absurd (apart (sym e))
begins-rest (a ∷ q) (b ∷ m) e =
    let (same-atom, q-begins) = and_both (eqb a b) (begins q m) e in
    let (d, v, shape) = begins-rest q m q-begins in
    (d, v, cc (eqb-true a b same-atom, shape))

pub begins-range : (n : ℕ) (v w : List ℕ) → begins v w ≡ true → InRange n w → InRange n v
unfolding begins
begins-range n [] w e r = tt
begins-range n (a ∷ v) [] e r = absurd (apart (sym e))
begins-range n (a ∷ v) (b ∷ w) e (low, high, others) =
    let (same-atom, begins-rest) = and_both (eqb a b) (begins v w) e in
    let q : a ≡ b = eqb-true a b same-atom in
    (omega arith, omega arith, begins-range n v w begins-rest others)

pub begins-transitive : (u v w : List ℕ) → begins u v ≡ true → begins v w ≡ true → begins u w ≡ true
unfolding begins
begins-transitive [] [] w e f = absurd (apart (sym e))
begins-transitive [] (b ∷ v) [] e f = absurd (apart (sym f))
begins-transitive [] (b ∷ v) (c ∷ w) e f = refl
begins-transitive (a ∷ u) [] w e f = absurd (apart (sym e))
begins-transitive (a ∷ u) (b ∷ v) [] e f = absurd (apart (sym f))
begins-transitive (a ∷ u) (b ∷ v) (c ∷ w) e f =
    let (a-is-b, uv) = and_both (eqb a b) (begins u v) e in
    let (b-is-c, vw) = and_both (eqb b c) (begins v w) f in
    let q : a ≡ c = eqb-true a b a-is-b ∙ eqb-true b c b-is-c in
    rw (eq-eqb a c q) (begins-transitive u v w uv vw)
