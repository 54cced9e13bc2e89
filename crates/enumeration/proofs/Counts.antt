-- The counts of a search, by a balance: trials + n × |p| and n × extensions + the sum of p + c rise alike.
-- At most n − 1 open words for each member: an open word is one of the beginnings of some member.
use Prim.Native.Nat.{ℕ, zero, suc, ◌+◌, ◌-◌, ◌*◌, ◌≤◌}
use native.Mathlib.Omega.{arith}
use native.Mathlib.Nat.{mul-suc, mul-zero}
use mathlib.Core.Path.{◌≡◌, refl, sym, ap, ◌∙◌}
use mathlib.Core.Logic.{◌⊎◌, inl, inr}
use mathlib.Core.Bool.{Bool, true, false, cond}
use mathlib.Core.List.Memᴰ
use mathlib.Core.List.{List, [], ◌∷◌, ◌++◌, map, Memᴰ}
use lib.ListN.{length, length-append, length-map}
use lib.Dec.{eqb}
use borrow.Author.Tests.{eqb-true}
use Rattle.enumeration.specs.Words.{Family, begins, members, is_open}
use Rattle.enumeration.specs.Machine.{State, fresh, tried, is_empty, is_done, unwound, act, trial}
use Rattle.enumeration.specs.Listing.{NoRepeats, open_words}
use Rattle.enumeration.specs.Lawful.{Lawful, AtMost}
use Rattle.enumeration.specs.Trials.{moved, steps, sum}
use Rattle.enumeration.proofs.Basics.{apart, decided, and_both}
use Rattle.enumeration.proofs.Order.{mem-map}
use Rattle.enumeration.proofs.Open.{members-sound, members-complete, open_words-once, open_words-sound}
use Rattle.enumeration.proofs.Trial.{done-place}
use Rattle.enumeration.proofs.Steps.{moved-done, moved-trial}

-- ---- the balance

abbrev pub Balanced : ℕ → ℕ → ℕ → List ℕ → ℕ → ℕ → ℕ → Type 0
Balanced n x y p c trials extensions = trials + n * length p + x ≡ n * extensions + sum p + c + y

abbrev pub BalancedAt : ℕ → ℕ → ℕ → State → Type 0
BalancedAt n x y st = Balanced n x y st.stack st.next st.trials st.extensions

unwound-balanced :
    (n x y : ℕ) (p : List ℕ) (c t e : ℕ) → Balanced n x y p c t e →
    Balanced n x y (unwound n p c).0 (unwound n p c).1 t e
unfolding unwound
unwound-balanced n x y [] c t e h = h
unwound-balanced n x y (a ∷ p) c t e h = go (eqb c (suc n)) refl (unwound-balanced n x y p (suc a) t e)
  where
    go :
        (b : Bool) → eqb c (suc n) ≡ b →
        (Balanced n x y p (suc a) t e → Balanced n x y (unwound n p (suc a)).0 (unwound n p (suc a)).1 t e) →
        let place = cond b (unwound n p (suc a)) (a ∷ p, c) in
        Balanced n x y place.0 place.1 t e
    go true q ih = ih (omega (arith, eqb-true c (suc n) q, mul-suc n (length p)))
    go false q ih = h

module _ (F : Family) (x y : ℕ) where
  open F use {atoms as n, member}

  trial-balanced : (st : State) → BalancedAt n x y st → BalancedAt n x y (trial F st)
  unfolding trial act
  trial-balanced st h = go (member (tried st)) (is_open F (tried st))
    where
      go : (m o : Bool) → BalancedAt n x y (act n m o st)
      go true o = unwound-balanced n x y st.stack (suc st.next) (suc st.trials) st.extensions (omega arith)
      go false true =
          let deeper = mul-suc n (length st.stack) in
          let extended = mul-suc n st.extensions in
          unwound-balanced n x y (st.next ∷ st.stack) 1 (suc st.trials) (suc st.extensions) (omega arith)
      go false false =
          unwound-balanced n x y st.stack (suc st.next) (suc st.trials) st.extensions (omega arith)

  steps-balanced : (k : ℕ) (st : State) → BalancedAt n x y st → BalancedAt n x y (steps F k st)
  unfolding steps
  steps-balanced zero st h = h
  steps-balanced (suc k) st h = steps-balanced k (moved F st) one
    where
      one : BalancedAt n x y (moved F st)
      one = elim (decided (is_done n st)) [
        | inl done ↦ rw (moved-done F st done) h
        | inr not_done ↦ rw (moved-trial F st not_done) (trial-balanced st h)
      ]

-- what a search has cost, and what for
abbrev pub cost : ℕ → State → ℕ
cost n st = st.trials + n * length st.stack

abbrev pub worth : ℕ → State → ℕ
worth n st = n * st.extensions + sum st.stack + st.next

module _ (F : Family) where
  open F use {atoms as n}

  -- from any search on, whatever its counts, both rise alike
  pub balance : (k : ℕ) (st : State) → cost n (steps F k st) + worth n st ≡ worth n (steps F k st) + cost n st
  balance k st = steps-balanced F (worth n st) (cost n st) k st (omega arith)

  -- once done
  pub balance-done :
      (k : ℕ) (st : State) → is_done n (steps F k st) ≡ true →
      (steps F k st).trials + worth n st ≡ n * suc (steps F k st).extensions + 1 + cost n st
  balance-done k st d =
      let (no_Stack, at-end) = done-place n (steps F k st) d in
      let balanced = balance k st in
      let no-atoms = ap sum no_Stack in
      let no-levels = ap (λ (p : List ℕ). n * length p) no_Stack in
      omega (arith, mul-suc n (steps F k st).extensions, mul-zero n)

  pub fresh-balance :
      (k : ℕ) → is_done n (steps F k fresh) ≡ true →
      (steps F k fresh).trials ≡ n * suc (steps F k fresh).extensions
  unfolding fresh
  fresh-balance k d = omega (arith, balance-done k fresh d, mul-zero n)

-- ---- a list without repeats is no longer than one that holds it

without : {x : List ℕ} {ys : List (List ℕ)} → Memᴰ x ys → List (List ℕ)
without (Memᴰ.head {x} {xs} e) = xs
without (Memᴰ.tail {x} {xs} m) = x ∷ without m

without-length : {x : List ℕ} {ys : List (List ℕ)} (m : Memᴰ x ys) → length ys ≡ suc (length (without m))
unfolding without
without-length (Memᴰ.head e) = refl
without-length (Memᴰ.tail m) = ap suc (without-length m)

without-mem :
    {x y : List ℕ} {ys : List (List ℕ)} (m : Memᴰ x ys) → Memᴰ y ys → (y ≡ x) ⊎ Memᴰ y (without m)
unfolding without
without-mem (Memᴰ.head e) q = elim (Memᴰ.cases_cons q) [
  | inl f ↦ inl (f ∙ sym e)
  | inr f ↦ inr f
]
without-mem (Memᴰ.tail m) q = elim (Memᴰ.cases_cons q) [
  | inl f ↦ inr (Memᴰ.head f)
  | inr f ↦ elim (without-mem m f) [
    | inl same ↦ inl same
    | inr other ↦ inr (Memᴰ.tail other)
  ]
]

pub no_longer :
    (xs ys : List (List ℕ)) → NoRepeats xs → ((x : List ℕ) → Memᴰ x xs → Memᴰ x ys) → length xs ≤ length ys
no_longer [] ys d h = omega arith
no_longer (x ∷ xs) ys (x-once, xs-once) h =
    let m = h x (Memᴰ.head refl) in
    omega (arith, without-length m, no_longer xs (without m) xs-once (λ y q. other m y q))
  where
    other : (m : Memᴰ x ys) (y : List ℕ) → Memᴰ y xs → Memᴰ y (without m)
    other m y q = elim (without-mem m (h y (Memᴰ.tail q))) [
      | inl e ↦ absurd (x-once (Memᴰ.cast (sym e) q))
      | inr r ↦ r
    ]

-- ---- the beginnings of a word

-- all its proper beginnings
abbrev pub begun : List ℕ → List (List ℕ)
begun [] = []
begun (a ∷ w) = [] ∷ map (λ (v : List ℕ). a ∷ v) (begun w)

-- those that are not empty
abbrev pub starts : List ℕ → List (List ℕ)
starts [] = []
starts (a ∷ w) = map (λ (v : List ℕ). a ∷ v) (begun w)

begun-length : (w : List ℕ) → length (begun w) ≡ length w
begun-length [] = refl
begun-length (a ∷ w) = ap suc (length-map (begun w) (λ (v : List ℕ). a ∷ v) ∙ begun-length w)

starts-length : (n : ℕ) (w : List ℕ) → length w ≤ n → length (starts w) ≤ n - 1
starts-length n [] h = omega arith
starts-length n (a ∷ w) h = omega (arith, length-map (begun w) (λ (v : List ℕ). a ∷ v), begun-length w)

-- where a word with an atom begins another, their first atoms are the same
begun-cons :
    (a b : ℕ) (v w : List ℕ) → (begins v w ≡ true → Memᴰ v (begun w)) → begins (a ∷ v) (b ∷ w) ≡ true →
    Memᴰ (a ∷ v) (map (λ (u : List ℕ). b ∷ u) (begun w))
unfolding begins
begun-cons a b v w below e =
    let (same-atom, v-begins) = and_both (eqb a b) (begins v w) e in
    let q : a ∷ v ≡ b ∷ v = cc (eqb-true a b same-atom) in
    Memᴰ.cast q (mem-map b (below v-begins))

begins-begun : (v w : List ℕ) → begins v w ≡ true → Memᴰ v (begun w)
unfolding begins
begins-begun [] [] e = absurd (apart (sym e))
begins-begun [] (b ∷ w) e = Memᴰ.head refl
begins-begun (a ∷ v) [] e = absurd (apart (sym e))
begins-begun (a ∷ v) (b ∷ w) e = Memᴰ.tail (begun-cons a b v w (begins-begun v w) e)

begins-starts : (v w : List ℕ) → is_empty v ≡ false → begins v w ≡ true → Memᴰ v (starts w)
unfolding begins is_empty
begins-starts [] w s e = absurd (apart s)
begins-starts (a ∷ v) [] s e = absurd (apart (sym e))
begins-starts (a ∷ v) (b ∷ w) s e = begun-cons a b v w (begins-begun v w) e

abbrev all_starts : List (List ℕ) → List (List ℕ)
all_starts [] = []
all_starts (m ∷ ms) = starts m ++ all_starts ms

all_starts-length :
    (n : ℕ) (ms : List (List ℕ)) → ((m : List ℕ) → Memᴰ m ms → length m ≤ n) →
    length (all_starts ms) ≤ (n - 1) * length ms
all_starts-length n [] h = omega arith
all_starts-length n (m ∷ ms) h =
    let first = starts-length n m (h m (Memᴰ.head refl)) in
    let others = all_starts-length n ms (λ w q. h w (Memᴰ.tail q)) in
    omega (arith, length-append (starts m) (all_starts ms), mul-suc (n - 1) (length ms))

mem-all_starts :
    {m : List ℕ} {ms : List (List ℕ)} {v : List ℕ} →
    Memᴰ m ms → Memᴰ v (starts m) → Memᴰ v (all_starts ms)
mem-all_starts (Memᴰ.head {x} {xs} e) q = Memᴰ.append_left (all_starts xs) (rw e at q)
mem-all_starts (Memᴰ.tail {x} {xs} m) q = Memᴰ.append_right (starts x) (mem-all_starts m q)

-- Where no member has more than k atoms, each has at most k − 1 beginnings that are not empty
pub open_words-bound :
    (F : Family) → Lawful F → (k : ℕ) → AtMost F k → length (open_words F) ≤ (k - 1) * length (members F)
open_words-bound F L k short =
    let fewer = no_longer (open_words F) (all_starts (members F)) (open_words-once F) covered in
    let few = all_starts-length k (members F) (λ m h. short m (members-sound F m h)) in
    omega arith
  where
    covered : (q : List ℕ) → Memᴰ q (open_words F) → Memᴰ q (all_starts (members F))
    covered q h =
        let (not-empty, m, is_member, q-begins) = open_words-sound F q h in
        mem-all_starts (members-complete F L m is_member) (begins-starts q m not-empty q-begins)
