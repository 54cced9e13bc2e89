-- Laws of tests, of `keep`, `any`, `joined` and `from`, and of membership in them.
-- By induction on the list.
use Prim.Native.Nat.{ℕ, zero, suc, ◌+◌, ◌≤◌, ◌<◌}
use native.Mathlib.Omega.{arith}
use mathlib.Core.Path.{◌≡◌, refl, sym, ap, ◌∙◌}
use mathlib.Core.Logic.{◌⊎◌, inl, inr}
use mathlib.Core.Bool.{Bool, true, false, ◌||◌, ◌&&◌, cond, true≢false}
use mathlib.Core.List.Memᴰ
use mathlib.Core.List.{List, [], ◌∷◌, ◌++◌, map, append_assoc, Memᴰ}
use lib.Dec.{ltb}
use borrow.Author.Tests.{ltb-true, ltb-false}
use Rattle.enumeration.specs.Words.{numbers_from, joined, words, keep, any}

-- ---- tests

pub apart : true ≡ false → ⊥
apart e = true≢false e

-- a test has passed or failed
abbrev pub Decided : Bool → Type 0
Decided b = (b ≡ true) ⊎ (b ≡ false)

pub decided : (b : Bool) → Decided b
decided true = inl refl
decided false = inr refl

pub and_both : (a b : Bool) → (a && b) ≡ true → (a ≡ true) × (b ≡ true)
and_both true b e = (refl, e)
and_both false b e = absurd (apart (sym e))

pub or-either : (a b : Bool) → (a || b) ≡ true → (a ≡ true) ⊎ (b ≡ true)
or-either true b e = inl refl
or-either false b e = inr e

pub or_right : (a b : Bool) → b ≡ true → (a || b) ≡ true
or_right true b e = refl
or_right false b e = e

pub or_left : (a b : Bool) → a ≡ true → (a || b) ≡ true
or_left true b e = refl
or_left false b e = absurd (apart (sym e))

pub or-neither : (a b : Bool) → (a || b) ≡ false → (a ≡ false) × (b ≡ false)
or-neither true b e = absurd (apart e)
or-neither false b e = (refl, e)

pub not-true-false : (b : Bool) → (b ≡ true → ⊥) → b ≡ false
not-true-false true h = absurd (h refl)
not-true-false false h = refl

-- the three ways in which two numbers stand
pub data Compared (a b : ℕ) : Type 0 where
  less : a < b → Compared a b
  same : a ≡ b → Compared a b
  more : b < a → Compared a b

pub compared : (a b : ℕ) → Compared a b
compared a b = go (decided (ltb a b)) (decided (ltb b a))
  where
    go : Decided (ltb a b) → Decided (ltb b a) → Compared a b
    go (inl e) f = less (ltb-true a b e)
    go (inr e) (inl f) = more (ltb-true b a f)
    go (inr e) (inr f) = same (omega (arith, ltb-false a b e, ltb-false b a f))

-- ---- keep

pub keep_append : (t : List ℕ → Bool) (xs ys : List (List ℕ)) → keep t (xs ++ ys) ≡ keep t xs ++ keep t ys
unfolding keep
keep_append t [] ys = refl
keep_append t (x ∷ xs) ys = rw (keep_append t xs ys) (go (t x))
  where
    go :
        (b : Bool) →
        cond b (x ∷ keep t xs ++ keep t ys) (keep t xs ++ keep t ys) ≡
        cond b (x ∷ keep t xs) (keep t xs) ++ keep t ys
    go true = refl
    go false = refl

pub keep-false : (t : List ℕ → Bool) (x : List ℕ) (xs : List (List ℕ)) → t x ≡ false → keep t (x ∷ xs) ≡ keep t xs
unfolding keep
keep-false t x xs e = rw e

-- a word that is kept is of the list and passes
pub keep-mem :
    (t : List ℕ → Bool) (xs : List (List ℕ)) {w : List ℕ} → Memᴰ w (keep t xs) → Memᴰ w xs × (t w ≡ true)
unfolding keep
keep-mem t [] m = absurd (Memᴰ.not-nil m)
keep-mem t (x ∷ xs) {w} m = go (t x) refl (λ (m' : Memᴰ w (keep t xs)). keep-mem t xs m') m
  where
    go :
        (b : Bool) → t x ≡ b → (Memᴰ w (keep t xs) → Memᴰ w xs × (t w ≡ true)) →
        Memᴰ w (cond b (x ∷ keep t xs) (keep t xs)) → Memᴰ w (x ∷ xs) × (t w ≡ true)
    go true e ih m' = elim (Memᴰ.cases_cons m') [
      | inl q ↦ (Memᴰ.head q, ap t q ∙ e)
      | inr kept ↦ let (of-xs, passes) = ih kept in (Memᴰ.tail of-xs, passes)
    ]
    go false e ih m' = let (of-xs, passes) = ih m' in (Memᴰ.tail of-xs, passes)

-- a word of the list that passes is kept
pub mem-keep :
    (t : List ℕ → Bool) {w : List ℕ} {xs : List (List ℕ)} → Memᴰ w xs → t w ≡ true → Memᴰ w (keep t xs)
unfolding keep
mem-keep t {w = w} (Memᴰ.head {x} {xs} q) e = go (t x) (sym (ap t q) ∙ e)
  where
    go : (b : Bool) → b ≡ true → Memᴰ w (cond b (x ∷ keep t xs) (keep t xs))
    go true h = Memᴰ.head q
    go false h = absurd (apart (sym h))
mem-keep t {w = w} (Memᴰ.tail {x} {xs} m) e = go (t x) (mem-keep t m e)
  where
    go : (b : Bool) → Memᴰ w (keep t xs) → Memᴰ w (cond b (x ∷ keep t xs) (keep t xs))
    go true h = Memᴰ.tail h
    go false h = h

-- where none passes, none is kept
pub keep-none :
    (t : List ℕ → Bool) (xs : List (List ℕ)) → ((w : List ℕ) → Memᴰ w xs → t w ≡ false) → keep t xs ≡ []
unfolding keep
keep-none t [] h = refl
keep-none t (x ∷ xs) h = rw (h x (Memᴰ.head refl)) (keep-none t xs (λ w m. h w (Memᴰ.tail m)))

-- two tests that agree on the list keep the same
pub keep-cong :
    (s t : List ℕ → Bool) (xs : List (List ℕ)) → ((w : List ℕ) → Memᴰ w xs → s w ≡ t w) → keep s xs ≡ keep t xs
unfolding keep
keep-cong s t [] h = refl
keep-cong s t (x ∷ xs) h = rw (h x (Memᴰ.head refl), keep-cong s t xs (λ w m. h w (Memᴰ.tail m)))

-- where all pass, all are kept
pub keep_all : (t : List ℕ → Bool) (xs : List (List ℕ)) → ((w : List ℕ) → Memᴰ w xs → t w ≡ true) → keep t xs ≡ xs
unfolding keep
keep_all t [] h = refl
keep_all t (x ∷ xs) h = rw (h x (Memᴰ.head refl), keep_all t xs (λ w m. h w (Memᴰ.tail m)))

-- the order of two tests does not matter
pub keep-swap : (s t : List ℕ → Bool) (xs : List (List ℕ)) → keep s (keep t xs) ≡ keep t (keep s xs)
unfolding keep
keep-swap s t [] = refl
keep-swap s t (x ∷ xs) = go (s x) refl (t x) refl (keep-swap s t xs)
  where
    go :
        (a : Bool) → s x ≡ a → (b : Bool) → t x ≡ b →
        keep s (keep t xs) ≡ keep t (keep s xs) →
        keep s (cond b (x ∷ keep t xs) (keep t xs)) ≡ keep t (cond a (x ∷ keep s xs) (keep s xs))
    go true e true f ih = rw (e, f, ih)
    go true e false f ih = rw (f, ih)
    go false e true f ih = rw (e, ih)
    go false e false f ih = ih

-- ---- any

-- some word of the list passes
pub any-mem : (t : List ℕ → Bool) (xs : List (List ℕ)) → any t xs ≡ true → (w : List ℕ) × Memᴰ w xs × (t w ≡ true)
unfolding any
any-mem t [] e = absurd (apart (sym e))
any-mem t (x ∷ xs) e = elim (or-either (t x) (any t xs) e) [
  | inl q ↦ (x, Memᴰ.head refl, q)
  | inr q ↦ let (w, of-xs, passes) = any-mem t xs q in (w, Memᴰ.tail of-xs, passes)
]

pub mem-any : (t : List ℕ → Bool) {w : List ℕ} {xs : List (List ℕ)} → Memᴰ w xs → t w ≡ true → any t xs ≡ true
unfolding any
mem-any t (Memᴰ.head {x} {xs} q) e = or_left (t x) (any t xs) (sym (ap t q) ∙ e)
mem-any t (Memᴰ.tail {x} {xs} m) e = or_right (t x) (any t xs) (mem-any t m e)

-- ---- joined and from

pub joined-cong : (f g : ℕ → List (List ℕ)) (l : List ℕ) → ((a : ℕ) → f a ≡ g a) → joined f l ≡ joined g l
unfolding joined
joined-cong f g [] h = refl
joined-cong f g (a ∷ l) h = rw (h a, joined-cong f g l h)

pub joined-append : (f : ℕ → List (List ℕ)) (l m : List ℕ) → joined f (l ++ m) ≡ joined f l ++ joined f m
unfolding joined
joined-append f [] m = refl
joined-append f (a ∷ l) m = rw (joined-append f l m, append_assoc)

pub map-joined :
    (h : List ℕ → List ℕ) (f : ℕ → List (List ℕ)) (l : List ℕ) → map h (joined f l) ≡ joined (λ a. map h (f a)) l
unfolding joined
map-joined h f [] = refl
map-joined h f (a ∷ l) = rw (map-append' (f a) (joined f l), map-joined h f l)
  where
    map-append' : (xs ys : List (List ℕ)) → map h (xs ++ ys) ≡ map h xs ++ map h ys
    map-append' [] ys = refl
    map-append' (x ∷ xs) ys = rw (map-append' xs ys)

pub keep-joined :
    (t : List ℕ → Bool) (f g : ℕ → List (List ℕ)) (l : List ℕ) →
    ((a : ℕ) → keep t (f a) ≡ keep t (g a)) →
    keep t (joined f l) ≡ keep t (joined g l)
unfolding joined
keep-joined t f g [] h = refl
keep-joined t f g (a ∷ l) h = simp (keep_append, h a, keep-joined t f g l h)

pub joined-mem :
    (f : ℕ → List (List ℕ)) (l : List ℕ) {w : List ℕ} → Memᴰ w (joined f l) →
    (a : ℕ) × Memᴰ a l × Memᴰ w (f a)
unfolding joined
joined-mem f [] m = absurd (Memᴰ.not-nil m)
joined-mem f (a ∷ l) m = elim (Memᴰ.append_cases (f a) m) [
  | inl q ↦ (a, Memᴰ.head refl, q)
  | inr q ↦ let (b, of-l, of-fb) = joined-mem f l q in (b, Memᴰ.tail of-l, of-fb)
]

pub mem-joined :
    (f : ℕ → List (List ℕ)) {a : ℕ} {l : List ℕ} {w : List ℕ} →
    Memᴰ a l → Memᴰ w (f a) → Memᴰ w (joined f l)
unfolding joined
mem-joined f (Memᴰ.head {x} {xs} q) m = Memᴰ.append_left (joined f xs) (rw q at m)
mem-joined f (Memᴰ.tail {x} {xs} h) m = Memᴰ.append_right (f x) (mem-joined f h m)

pub from-mem : (c k : ℕ) {a : ℕ} → Memᴰ a (numbers_from c k) → (c ≤ a) × (a < c + k)
unfolding numbers_from
from-mem c zero m = absurd (Memᴰ.not-nil m)
from-mem c (suc k) m = elim (Memᴰ.cases_cons m) [
  | inl q ↦ (omega arith, omega arith)
  | inr q ↦ let (low, high) = from-mem (suc c) k q in (omega arith, omega arith)
]

pub mem-from : (c k a : ℕ) → c ≤ a → a < c + k → Memᴰ a (numbers_from c k)
unfolding numbers_from
mem-from c zero a h l = absurd (omega arith)
mem-from c (suc k) a h l = elim (compared c a) [
  | less q ↦ Memᴰ.tail (mem-from (suc c) k a q (omega arith))
  | same q ↦ Memᴰ.head (sym q)
  | more q ↦ absurd (omega arith)
]

-- the words of at most k atoms more, each after the atom a
abbrev pub starting : ℕ → ℕ → ℕ → List (List ℕ)
starting n k a = map (λ (w : List ℕ). a ∷ w) (words n k)
