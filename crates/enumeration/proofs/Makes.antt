-- Trials of which none stops a run: joined, as part of a run, what they keep, and the trials at one place.
-- By induction on the trials; a trial at a place is told by whether its word is a member and whether it is open.
use Prim.Native.Nat.{ℕ, zero, suc, ◌+◌, ◌-◌, ◌≤◌, ◌<◌}
use native.Mathlib.Omega.{arith}
use mathlib.Core.Path.{◌≡◌, refl, ap, ◌∙◌}
use mathlib.Core.Bool.{Bool, true, false, ◌&&◌}
use mathlib.Core.List.{List, [], ◌∷◌, ◌++◌, reverse, append_assoc, append-nil}
use lib.ListN.{length, length-append}
use lib.Dec.{eqb}
use borrow.Author.Tests.{ne_eqb}
use Rattle.enumeration.specs.Words.{Family, is_open}
use Rattle.enumeration.specs.Machine.{State, tried, is_empty, is_done, unwound, placed, act, trial}
use Rattle.enumeration.specs.Run.{Outcome, limit, at_limit, record_of, record_if, lists, after_trial, run}
use Rattle.enumeration.specs.Lawful.{Lawful}
use Rattle.enumeration.specs.Trials.{Valid}
use Rattle.enumeration.specs.RunFacts.{Bounded}
use Rattle.enumeration.specs.Makes.{Makes, none, more, onto}
use Rattle.enumeration.proofs.Trial.{trial-trials, trial-tried}
use Rattle.enumeration.proofs.Running.{run-turn, trial-bounded}

-- ---- one trial, and trials after trials

module _ {F : Family} where
  pub makes_one :
      {st : State} → is_done F.atoms st ≡ false → at_limit st ≡ false → Makes F (trial F st) st 1 (lists F st)
  makes_one {st} d l = rw (← append-nil (lists F st)) (more d l none)

  pub makes-join :
      {last mid st : State} {k j : ℕ} {xs ys : List ℕ} → Makes F mid st k xs → Makes F last mid j ys →
      Makes F last st (k + j) (xs ++ ys)
  makes-join {j = j} none b = let z : 0 + j ≡ j = omega arith in rw z b
  makes-join {j = j} {ys = ys} (more {st} {k} {bytes} d l a) b =
      let s : suc k + j ≡ suc (k + j) = omega arith in
      rw (s, append_assoc (lists F st) bytes ys) (more d l (makes-join a b))

-- ---- the part of a run that they are

pub onto-none : (o : Outcome) → o ≡ onto [] 0 o
onto-none o = let z : 0 + o.made ≡ o.made = omega arith in rw z

pub onto-onto :
    (xs ys : List ℕ) (m k : ℕ) (o : Outcome) → onto xs m (onto ys k o) ≡ onto (xs ++ ys) (m + k) o
onto-onto xs ys m k o =
    let both : m + (k + o.made) ≡ m + k + o.made = omega arith in
    rw (both, append_assoc xs ys o.bytes)

after-onto : (xs ys : List ℕ) (k : ℕ) (o : Outcome) → after_trial xs (onto ys k o) ≡ onto (xs ++ ys) (suc k) o
after-onto xs ys k o =
    let both : suc (k + o.made) ≡ suc k + o.made = omega arith in
    rw (both, append_assoc xs ys o.bytes)

module _ {F : Family} where
  pub makes-run :
      {last st : State} {k : ℕ} {bytes : List ℕ} → Makes F last st k bytes → (budget room : ℕ) → k ≤ budget →
      length bytes ≤ room → run F budget room st ≡ onto bytes k (run F (budget - k) (room - length bytes) last)
  makes-run {last} none budget room b r =
      let spent : budget - 0 ≡ budget = omega arith in
      let used : room - 0 ≡ room = omega arith in
      rw (spent, used) (onto-none (run F budget room last))
  makes-run (more d l a) zero room b r = absurd (omega arith)
  makes-run {last} (more {st} {k} {bytes} d l a) (suc budget) room b r =
      let one = lists F st in
      let both : length (one ++ bytes) ≡ length one + length bytes = length-append one bytes in
      let fits : length one ≤ room = omega arith in
      let left : room - length (one ++ bytes) ≡ room - length one - length bytes = omega arith in
      let spent : suc budget - suc k ≡ budget - k = omega arith in
      run-turn F room st d l budget fits
      ∙ ap (after_trial one) (makes-run a budget (room - length one) (omega arith) (omega arith))
      ∙ rw (left, spent) (after-onto one bytes k (run F (budget - k) (room - length one - length bytes) last))

  -- ---- what they keep

  pub makes-valid :
      {last st : State} {k : ℕ} {bytes : List ℕ} → Lawful F → Valid F st → Makes F last st k bytes → Valid F last
  makes-valid L v none = v
  makes-valid L v (more {st} d l a) = makes-valid L (trial-tried F L st v d).valid a

  pub makes-bounded :
      {last st : State} {k : ℕ} {bytes : List ℕ} → Bounded st → Makes F last st k bytes → Bounded last
  makes-bounded b none = b
  makes-bounded b (more {st} d l a) = makes-bounded (trial-bounded F st b l) a

  pub makes-trials :
      {last st : State} {k : ℕ} {bytes : List ℕ} → Makes F last st k bytes → last.trials ≡ st.trials + k
  makes-trials none = omega arith
  makes-trials (more {st} d l a) = omega (arith, makes-trials a, trial-trials F st)

-- ---- the trials at a place

and_no : (b : Bool) → b && false ≡ false
and_no true = refl
and_no false = refl

-- a search whose next atom is an atom of the family is not done
pub not_done : (n : ℕ) (st : State) → st.next ≤ n → is_done n st ≡ false
unfolding is_done
not_done n st h = rw (ne_eqb st.next (suc n) (λ e. omega arith)) (and_no (is_empty st.stack))

-- nor does it unwind
pub unwound-stays : (n : ℕ) (stack : List ℕ) (next : ℕ) → next ≤ n → unwound n stack next ≡ (stack, next)
unfolding unwound
unwound-stays n [] next h = refl
unwound-stays n (a ∷ stack) next h = rw (ne_eqb next (suc n) (λ e. omega arith))

pub not_limit :
    (st : State) → st.trials < limit → eqb st.extensions limit ≡ false → eqb st.listed limit ≡ false →
    at_limit st ≡ false
unfolding at_limit
not_limit st t e l = rw (ne_eqb st.trials limit (λ x. omega arith), e, l)

-- the k words of p and a next atom from c on are neither members nor open: their trials only raise the next atom
abbrev pub Rises : Family → List ℕ → ℕ → ℕ → Type 0
Rises F p c k =
    (i : ℕ) → i < k →
    (F.member (reverse ((c + i) ∷ p)) ≡ false) × (is_open F (reverse ((c + i) ∷ p)) ≡ false)

rises-later : (F : Family) (p : List ℕ) (c k : ℕ) → Rises F p c (suc k) → Rises F p (suc c) k
rises-later F p c k idle i h = let e : suc c + i ≡ c + suc i = omega arith in rw e (idle (suc i) (omega arith))

-- p: the beginning as a stack, its last atom first; c: the next atom; t, e, l: the counts
module _ {F : Family} (p : List ℕ) where
  open F use {atoms as n, member}

  -- one trial, by whether its word is a member and whether it is open
  makes-trial :
      (c : ℕ) {t e l : ℕ} {m o : Bool} → c ≤ n → t < limit → e < limit → l < limit → member (reverse (c ∷ p)) ≡ m →
      is_open F (reverse (c ∷ p)) ≡ o →
      Makes F (act n m o (placed (p, c) t e l)) (placed (unwound n p c) t e l) 1 (record_if m (reverse (c ∷ p)))
  unfolding trial tried lists
  makes-trial c {t} {e} {l} high t< e< l< x y =
      let st = placed (p, c) t e l in
      let e-other = ne_eqb e limit (λ x. omega arith) in
      let l-other = ne_eqb l limit (λ x. omega arith) in
      rw (unwound-stays n p c high, ← x, ← y) (makes_one (not_done n st high) (not_limit st t< e-other l-other))

  -- a trial that lists its word
  pub makes-lists :
      (c : ℕ) {t e l : ℕ} → 1 ≤ c → c ≤ n → member (reverse (c ∷ p)) ≡ true → t < limit → e < limit → l < limit →
      Makes F (placed (unwound n p (suc c)) (suc t) e (suc l)) (placed (unwound n p c) t e l) 1
      (record_of (reverse (c ∷ p)))
  unfolding act record_if
  makes-lists c low high m t e l = makes-trial c high t e l m refl

  -- a trial whose word becomes the beginning
  pub makes-extends :
      (c : ℕ) {t e l : ℕ} → 1 ≤ c → c ≤ n → member (reverse (c ∷ p)) ≡ false → is_open F (reverse (c ∷ p)) ≡ true →
      t < limit → e < limit → l < limit →
      Makes F (placed (unwound n (c ∷ p) 1) (suc t) (suc e) l) (placed (unwound n p c) t e l) 1 []
  unfolding act record_if
  makes-extends c low high m o t e l = makes-trial c high t e l m o

  -- trials that only raise the next atom
  pub makes-rises :
      (c k : ℕ) {t e l : ℕ} → 1 ≤ c → c + k ≤ suc n → Rises F p c k → t + k ≤ limit → e < limit → l < limit →
      Makes F (placed (unwound n p (c + k)) (t + k) e l) (placed (unwound n p c) t e l) k []
  unfolding act record_if
  makes-rises c zero {t} low high idle t< e< l< =
      let c-same : c + 0 ≡ c = omega arith in
      let t_same : t + 0 ≡ t = omega arith in
      rw (c-same, t_same) none
  makes-rises c (suc k) {t} low high idle t< e< l< =
      let c-same : c + 0 ≡ c = omega arith in
      let c-next : suc c + k ≡ c + suc k = omega arith in
      let t-next : suc t + k ≡ t + suc k = omega arith in
      let one : 1 + k ≡ suc k = omega arith in
      let (m, o) = rw c-same at (idle 0 (omega arith)) in
      let first = makes-trial c {t = t} (omega arith) (omega arith) e< l< m o in
      let later = rises-later F p c k idle in
      rw (← c-next, ← t-next, ← one)
      (makes-join first (makes-rises (suc c) k (omega arith) (omega arith) later (omega arith) e< l<))
