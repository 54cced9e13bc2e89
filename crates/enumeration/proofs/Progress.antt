-- From every valid search, within 2 × n × n trials, a member is listed or the search is done. Rising and unwinding use
-- up the slack of the beginning; once an open word is entered it is not left before one of its members is listed.
use Prim.Native.Nat.{ℕ, zero, suc, ◌+◌, ◌-◌, ◌*◌, ◌≤◌, ◌<◌}
use native.Mathlib.Omega.{arith}
use native.Mathlib.Nat.{mul-suc, mul_assoc, mul-le-mul_left}
use mathlib.Core.Path.{◌≡◌, refl, sym, ◌∙◌}
use mathlib.Core.Logic.{◌⊎◌, inl, inr}
use mathlib.Core.Bool.{Bool, true, false, cond}
use mathlib.Core.List.{List, [], ◌∷◌, ◌++◌, reverse, reverse_aux, reverse_aux-eq}
use lib.ListN.{length, length-reverse_aux}
use lib.Dec.{eqb}
use borrow.Author.Tests.{eqb-true, ne_eqb}
use Rattle.enumeration.specs.Words.{Family, begins, is_open}
use Rattle.enumeration.specs.Machine.{State, tried, is_done, unwound, placed, act, trial}
use Rattle.enumeration.specs.Lawful.{Lawful}
use Rattle.enumeration.specs.Trials.{Valid, steps}
use Rattle.enumeration.proofs.Basics.{apart, decided, not-true-false, compared, less, same, more}
use Rattle.enumeration.proofs.Order.{InRange, begins-rest}
use Rattle.enumeration.proofs.Stream.{begins-on}
use Rattle.enumeration.proofs.Open.{range-on, tried_open, opens-below, member-range, begins-open, stack-most}
use Rattle.enumeration.proofs.Trial.{done-place, unwound-valid}
use Rattle.enumeration.proofs.Steps.{steps-trial, steps-done, listed-steps}

-- ---- the slack of a beginning

-- how far the atoms of a beginning can still rise
abbrev slack : ℕ → List ℕ → ℕ
slack n [] = 0
slack n (a ∷ p) = n - a + slack n p

slack-most : (n : ℕ) (p : List ℕ) → slack n p ≤ n * length p
slack-most n [] = omega arith
slack-most n (a ∷ p) = omega (arith, slack-most n p, mul-suc n (length p))

unwound-still : (n : ℕ) (p : List ℕ) (c : ℕ) → c ≤ n → unwound n p c ≡ (p, c)
unfolding unwound
unwound-still n [] c h = refl
unwound-still n (a ∷ p) c h =
    let d : c ≡ suc n → ⊥ = omega arith in
    rw (ne_eqb c (suc n) d)

-- unwinding uses up no more than the slack gives back
unwound-slack :
    (n m k : ℕ) (p : List ℕ) (c : ℕ) → 1 + slack n p + m ≤ k + c →
    1 + slack n (unwound n p c).0 + m ≤ k + (unwound n p c).1
unfolding unwound
unwound-slack n m k [] c h = h
unwound-slack n m k (a ∷ p) c h = go (eqb c (suc n)) refl (unwound-slack n m k p (suc a))
  where
    go :
        (b : Bool) → eqb c (suc n) ≡ b →
        (1 + slack n p + m ≤ k + suc a → 1 + slack n (unwound n p (suc a)).0 + m ≤ k + (unwound n p (suc a)).1) →
        let place = cond b (unwound n p (suc a)) (a ∷ p, c) in
        1 + slack n place.0 + m ≤ k + place.1
    go true q ih = ih (omega (arith, eqb-true c (suc n) q))
    go false q ih = h

-- ---- aims

-- some member begins with p and goes on with an atom that is at least c
abbrev Aim : Family → List ℕ → ℕ → Type 0
Aim F p c = (b : ℕ) × (v : List ℕ) × (F.member (reverse_aux p (b ∷ v)) ≡ true) × (c ≤ b)

-- the search once an open word is entered: its next atom is 1
abbrev entered : State → State
entered st = placed (st.next ∷ st.stack, 1) (suc st.trials) (suc st.extensions) st.listed

-- k trials are enough to list a member that is aimed at
abbrev Near : Family → ℕ → State → Type 0
Near F k st = F.atoms * F.atoms + 1 ≤ k + F.atoms * length st.stack + st.next

-- k trials are enough to rise and unwind to the end, or to an open word and on to its member
abbrev Enough : Family → ℕ → State → Type 0
Enough F k st = 1 + slack F.atoms st.stack + F.atoms * F.atoms ≤ k + st.next

-- after k trials the search is done or has listed a member
abbrev Onward : Family → ℕ → State → Type 0
Onward F k st = (is_done F.atoms (steps F k st) ≡ true) ⊎ (st.listed < (steps F k st).listed)

module _ (F : Family) (L : Lawful F) where
  open F use {atoms as n, member}

  -- the atoms of a member past its beginning p are in range
  range-past : (p v : List ℕ) → member (reverse_aux p v) ≡ true → InRange n v
  range-past p v e = range-on n p v (member-range F L (reverse_aux p v) e)

  aim-high : (p : List ℕ) (c : ℕ) → Aim F p c → c ≤ n
  aim-high p c (b, v, is_member, high) = omega (arith, (range-past p (b ∷ v) is_member).1)

  aim-short : (p : List ℕ) (c : ℕ) → Aim F p c → suc (length p) ≤ n
  aim-short p c (b, v, is_member, high) =
      omega (arith, L.short (reverse_aux p (b ∷ v)) is_member, length-reverse_aux p (b ∷ v))

  -- a member that is p and then v
  member-on : (p v m : List ℕ) → m ≡ reverse p ++ v → member m ≡ true → member (reverse_aux p v) ≡ true
  member-on p v m shape e = rw (reverse_aux-eq p v, ← shape) e

  -- an open word is aimed at from its start
  aim-open : (p : List ℕ) (a : ℕ) → is_open F (reverse (a ∷ p)) ≡ true → Aim F (a ∷ p) 1
  aim-open p a o =
      let (m, is_member, beginning) = opens-below F (reverse (a ∷ p)) (tried_open F p a ∙ o) in
      let (b, v, shape) = begins-rest (reverse (a ∷ p)) m beginning in
      let whole = member-on (a ∷ p) (b ∷ v) m shape is_member in
      (b, v, whole, (range-past (a ∷ p) (b ∷ v) whole).0)

  -- past a word that is neither a member nor open the aim is higher
  aim-rise :
      (p : List ℕ) (c : ℕ) → member (reverse (c ∷ p)) ≡ false → is_open F (reverse (c ∷ p)) ≡ false →
      Aim F p c → Aim F p (suc c)
  unfolding begins
  aim-rise p c e o (b, v, is_member, high) = elim (compared c b) [
    | less q ↦ (b, v, is_member, q)
    | same q ↦ absurd (itself v (rw q is_member))
    | more q ↦ absurd (omega arith)
  ]
    where
      itself : (v : List ℕ) → member (reverse_aux p (c ∷ v)) ≡ true → ⊥
      itself [] f = apart (sym f ∙ e)
      itself (d ∷ v) f =
          let beginning = begins-on (c ∷ p) [] (d ∷ v) in
          apart (sym (begins-open F L (reverse (c ∷ p)) (reverse_aux p (c ∷ d ∷ v)) f beginning) ∙ o)

  -- ---- trials

  not_done : (st : State) → st.next ≤ n → is_done n st ≡ false
  not_done st h = not-true-false (is_done n st) (λ d. omega (arith, (done-place n st d).1))

  more-listed : (k : ℕ) (st s : State) → st.listed < s.listed → st.listed < (steps F k s).listed
  more-listed k st s h = omega (arith, listed-steps F k s)

  entered-valid : (st : State) → 1 ≤ n → is_open F (tried st) ≡ true → Valid F (entered st)
  unfolding tried
  entered-valid st one o = record { open_stack = o; low = omega arith; within = λ d. one }

  -- where a member is aimed at, one is listed
  aimed :
      (k : ℕ) (st : State) → Valid F st → Aim F st.stack st.next → Near F k st → st.listed < (steps F k st).listed
  unfolding trial tried act
  aimed zero st v r h =
      let high = aim-high st.stack st.next r in
      let short = aim-short st.stack st.next r in
      absurd (omega (arith, mul-suc n (length st.stack), mul-le-mul_left n short))
  aimed (suc k) st v r h =
      rw (steps-trial F k st (not_done st c≤n)) (go (member (tried st)) (is_open F (tried st)) refl refl (aimed k))
    where
      c≤n : st.next ≤ n
      c≤n = aim-high st.stack st.next r

      go :
          (m o : Bool) → member (tried st) ≡ m → is_open F (tried st) ≡ o →
          ((s : State) → Valid F s → Aim F s.stack s.next → Near F k s → s.listed < (steps F k s).listed) →
          st.listed < (steps F k (act n m o st)).listed
      go true o e f ih = more-listed k st (act n true o st) (omega arith)
      go false true e f ih =
          let one : 1 ≤ n = omega (arith, v.low, c≤n) in
          let near : Near F k (entered st) = omega (arith, c≤n, mul-suc n (length st.stack)) in
          rw (unwound-still n (st.next ∷ st.stack) 1 one)
          (ih (entered st) (entered-valid st one f) (aim-open st.stack st.next f) near)
      go false false e f ih =
          let up = aim-rise st.stack st.next e f r in
          let high : suc st.next ≤ n = aim-high st.stack (suc st.next) up in
          let risen : State = placed (st.stack, suc st.next) (suc st.trials) st.extensions st.listed in
          let valid : Valid F risen = record { open_stack = v.open_stack; low = omega arith; within = λ d. high } in
          rw (unwound-still n st.stack (suc st.next) high) (ih risen valid up (omega arith))

  -- rising and unwinding until the end, a listing or an open word
  moving : (k : ℕ) (st : State) → Valid F st → Enough F k st → Onward F k st
  unfolding steps trial tried act
  moving zero st v h = elim (decided (is_done n st)) [
    | inl done ↦ inl done
    | inr not_done ↦
        let c≤n : st.next ≤ n = v.within not_done in
        let one : 1 ≤ n = omega (arith, v.low) in
        absurd (omega (arith, mul-le-mul_left n one))
  ]
  moving (suc k) st v h = elim (decided (is_done n st)) [
    | inl done ↦ inl (rw (steps-done F (suc k) st done) done)
    | inr not_done ↦
        rw (steps-trial F k st not_done)
        (go (v.within not_done) (member (tried st)) (is_open F (tried st)) refl refl (moving k))
  ]
    where
      go :
          st.next ≤ n → (m o : Bool) → member (tried st) ≡ m → is_open F (tried st) ≡ o →
          ((s : State) → Valid F s → Enough F k s → Onward F k s) →
          (is_done n (steps F k (act n m o st)) ≡ true) ⊎ (st.listed < (steps F k (act n m o st)).listed)
      go c≤n true o e f ih = inr (more-listed k st (act n true o st) (omega arith))
      go c≤n false true e f ih =
          let one : 1 ≤ n = omega (arith, v.low, c≤n) in
          let near : Near F k (entered st) = omega (arith, c≤n, mul-suc n (length st.stack)) in
          inr (rw (unwound-still n (st.next ∷ st.stack) 1 one)
          (aimed k (entered st) (entered-valid st one f) (aim-open st.stack st.next f) near))
      go c≤n false false e f ih =
          let next = suc st.next in
          let low : 1 ≤ next = omega arith in
          let high : next ≤ suc n = omega arith in
          ih (placed (unwound n st.stack next) (suc st.trials) st.extensions st.listed)
          (unwound-valid F L st.stack next (suc st.trials) st.extensions st.listed v.open_stack low high)
          (unwound-slack n (n * n) k st.stack next (omega arith))

  pub progresses :
      (k : ℕ) (st : State) → Valid F st → 2 * n * n ≤ k →
      (is_done n (steps F k st) ≡ true) ⊎ (st.listed < (steps F k st).listed)
  progresses k st v h =
      let short : length st.stack ≤ n = omega (arith, stack-most F L st.stack v.open_stack) in
      let slack-le = slack-most n st.stack in
      moving k st v (omega (arith, v.low, mul_assoc 2 n n, mul-le-mul_left n short))
