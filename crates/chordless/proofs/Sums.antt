-- Laws of the sum over the atoms from 1 to n: of equal terms, of two terms, of one term that is not 0, of sums in
-- either order; and the words that pass a test, by their first atom. From sums below a bound, and by induction.
use Prim.Native.Nat.{ℕ, zero, suc, ◌+◌, ◌≤◌, ◌<◌}
use mathlib.Core.Path.{◌≡◌, refl, sym, ap, ◌∙◌}
use mathlib.Core.Bool.{Bool, true, false, cond}
use mathlib.Core.List.{List, [], ◌∷◌, map}
use mathlib.Core.Logic.{◌≢◌}
use native.Mathlib.Omega.{arith}
use native.Mathlib.Nat.{not-suc-le-zero}
use native.Mathlib.Decide.{ℕ_discrete}
use lib.ListN.{length, length-append}
use Rattle.graph.proofs.Sums.{sum, sum_same, sum-add, sum-none, sum-swap}
use Rattle.enumeration.specs.Words.{numbers_from, joined, words, keep}
use Rattle.enumeration.proofs.Basics.{keep_append, starting}
use Rattle.chordless.specs.Distance.{Atom, total}

-- ---- atoms from 1 to n + 1: those from 1 to n, and the last

more : {n a : ℕ} → Atom n a → Atom (suc n) a
more at = record { low = at.low; high = omega (arith, at.high) }

last : (n : ℕ) → Atom (suc n) (suc n)
last n = record { low = omega arith; high = omega arith }

earlier : {n a : ℕ} → Atom (suc n) a → a ≢ suc n → Atom n a
earlier at other = record { low = at.low; high = omega (arith, at.high) }

-- ---- sums

-- the sum over the numbers below n, each one more
total-sum : (n : ℕ) (f : ℕ → ℕ) → total n f ≡ sum n (λ i. f (suc i))
unfolding total sum
total-sum zero f = refl
total-sum (suc n) f = ap (λ s. s + f (suc n)) (total-sum n f)

-- equal terms
pub total-same : (n : ℕ) (f g : ℕ → ℕ) → ((a : ℕ) → Atom n a → f a ≡ g a) → total n f ≡ total n g
total-same n f g h =
    simp total-sum (sum_same n _ _ (λ i below. h (suc i) record { low = omega arith; high = below }))

pub total-zero : (n : ℕ) (f : ℕ → ℕ) → ((a : ℕ) → Atom n a → f a ≡ 0) → total n f ≡ 0
total-zero n f h = total-same n f (λ a. 0) h ∙ simp total-sum (sum-none n)

-- a sum that an atom adds to is not 0
pub total_of : {n : ℕ} (f : ℕ → ℕ) {a : ℕ} → Atom n a → 1 ≤ f a → 1 ≤ total n f
unfolding total
total_of {n = zero} f at h = absurd (omega (arith, at.low, at.high))
total_of {n = suc n} f {a} at h = elim (ℕ_discrete a (suc n)) [
  | yes e ↦ let here : 1 ≤ f (suc n) = rw e at h in omega arith
  | no e ↦ omega (arith, total_of f (earlier at e) h)
]

-- and one that is not 0 has such an atom
pub total-has : (n : ℕ) (f : ℕ → ℕ) → 1 ≤ total n f → (a : ℕ) × Atom n a × (1 ≤ f a)
unfolding total
total-has zero f h = absurd (not-suc-le-zero h)
total-has (suc n) f h = elim (ℕ_discrete (f (suc n)) 0) [
  | yes e ↦ let (a, at, one) = total-has n f (omega arith) in (a, more at, one)
  | no e ↦ (suc n, last n, omega arith)
]

-- every term but that of c is 0
pub total-one :
    (n : ℕ) (f : ℕ → ℕ) {c : ℕ} → Atom n c → ((a : ℕ) → Atom n a → a ≢ c → f a ≡ 0) → total n f ≡ f c
unfolding total
total-one zero f at h = absurd (omega (arith, at.low, at.high))
total-one (suc n) f {c} at h = elim (ℕ_discrete c (suc n)) [
  | yes e ↦
      let others = total-zero n f (λ a below. h a (more below) (λ q. absurd (omega (arith, below.high)))) in
      let here = ap f e in
      omega arith
  | no e ↦
      let others = total-one n f (earlier at e) (λ a below. h a (more below)) in
      let none = h (suc n) (last n) (λ q. e (sym q)) in
      omega arith
]

pub total-add : (n : ℕ) (f g : ℕ → ℕ) → total n (λ a. f a + g a) ≡ total n f + total n g
total-add n f g = simp total-sum (sum-add n (λ i. f (suc i)) (λ i. g (suc i)))

-- two sums in either order
pub total-swap :
    (m n : ℕ) (f : ℕ → ℕ → ℕ) → total m (λ a. total n (λ b. f a b)) ≡ total n (λ b. total m (λ a. f a b))
total-swap m n f = simp total-sum (sum-swap m n (λ i j. f (suc i) (suc j)))

-- a test that is the same for every term
pub total-if : (b : Bool) (n : ℕ) (f : ℕ → ℕ) → cond b (total n f) 0 ≡ total n (λ a. cond b (f a) 0)
total-if true n f = refl
total-if false n f = sym (total-zero n (λ a. 0) (λ a at. refl))

-- the atoms above n add nothing
pub total-beyond : (n m : ℕ) (f : ℕ → ℕ) → n ≤ m → ((a : ℕ) → n < a → f a ≡ 0) → total m f ≡ total n f
unfolding total
total-beyond zero zero f h none = refl
total-beyond (suc n) zero f h none = absurd (omega arith)
total-beyond n (suc m) f h none = elim (ℕ_discrete n (suc m)) [
  | yes q ↦ rw q
  | no q ↦ omega (arith, total-beyond n m f (omega arith) none, none (suc m) (omega arith))
]

-- ---- words by their first atom

-- the lists of the atoms from c + 1 on, joined, have as many words as they have together
joined-total :
    (f : ℕ → List (List ℕ)) (c k m : ℕ) → c + k ≡ m →
    total c (λ a. length (f a)) + length (joined f (numbers_from (suc c) k)) ≡ total m (λ a. length (f a))
unfolding total joined numbers_from
joined-total f c zero m e =
    let q : c ≡ m = omega arith in
    let same = ap (λ x. total x (λ a. length (f a))) q in
    omega arith
joined-total f c (suc k) m e =
    let others = joined-total f (suc c) k m (omega arith) in
    let first = length-append (f (suc c)) (joined f (numbers_from (suc (suc c)) k)) in
    omega arith

keep-joins :
    (t : List ℕ → Bool) (f : ℕ → List (List ℕ)) (l : List ℕ) → keep t (joined f l) ≡ joined (λ a. keep t (f a)) l
unfolding joined keep
keep-joins t f [] = refl
keep-joins t f (a ∷ l) = rw (keep_append t (f a) (joined f l), keep-joins t f l)

-- those that start with a, by what follows a
pub keep-starting :
    (t : List ℕ → Bool) (a : ℕ) (ws : List (List ℕ)) →
    length (keep t (map (λ (w : List ℕ). a ∷ w) ws)) ≡ length (keep (λ w. t (a ∷ w)) ws)
unfolding keep
keep-starting t a [] = refl
keep-starting t a (w ∷ ws) = go (t (a ∷ w)) (keep-starting t a ws)
  where
    longer : List (List ℕ)
    longer = keep t (map (λ (v : List ℕ). a ∷ v) ws)

    rest : List (List ℕ)
    rest = keep (λ v. t (a ∷ v)) ws

    go :
        (b : Bool) → length longer ≡ length rest →
        length (cond b ((a ∷ w) ∷ longer) longer) ≡ length (cond b (w ∷ rest) rest)
    go true ih = ap suc ih
    go false ih = ih

keep-later :
    (n k : ℕ) (t : List ℕ → Bool) →
    length (keep t (joined (starting n k) (numbers_from 1 n))) ≡
    total n (λ a. length (keep (λ w. t (a ∷ w)) (words n k)))
unfolding total
keep-later n k t =
    let summed = joined-total (λ a. keep t (starting n k a)) 0 n n (omega arith) in
    rw (keep-joins t (starting n k) (numbers_from 1 n)) (omega (arith, summed, same))
  where
    same : total n (λ a. length (keep t (starting n k a))) ≡ total n (λ a. length (keep (λ w. t (a ∷ w)) (words n k)))
    same = total-same n _ _ (λ a at. keep-starting t a (words n k))

-- of the words of at most k + 1 atoms: the empty one, and those that start with each atom
pub keep-words :
    (n k : ℕ) (t : List ℕ → Bool) →
    length (keep t (words n (suc k))) ≡ cond (t []) 1 0 + total n (λ a. length (keep (λ w. t (a ∷ w)) (words n k)))
unfolding words keep
keep-words n k t = go (t []) (keep-later n k t)
  where
    later : List (List ℕ)
    later = keep t (joined (starting n k) (numbers_from 1 n))

    go :
        (b : Bool) → length later ≡ total n (λ a. length (keep (λ w. t (a ∷ w)) (words n k))) →
        length (cond b ([] ∷ later) later) ≡ cond b 1 0 + total n (λ a. length (keep (λ w. t (a ∷ w)) (words n k)))
    go true e = omega arith
    go false e = omega arith
