-- One trial takes the head off the stream of words tried, keeps the search valid and counts what it did.
-- By the four cases of member and open, of which one cannot be: a member is not open. Unwinding changes no stream.
use Prim.Native.Nat.{ℕ, suc, ◌+◌, ◌≤◌}
use native.Mathlib.Omega.{arith}
use mathlib.Core.Path.{◌≡◌, refl, sym, ◌∙◌}
use mathlib.Core.Bool.{Bool, true, false, cond}
use mathlib.Core.List.{List, [], ◌∷◌, reverse}
use lib.ListN.{length}
use lib.Dec.{eqb}
use borrow.Author.Tests.{eqb-true, eqb-false}
use Rattle.enumeration.specs.Words.{Family, keep, is_open}
use Rattle.enumeration.specs.Machine.{State, tried, is_empty, is_done, unwound, placed, act, trial}
use Rattle.enumeration.specs.Listing.{opens}
use Rattle.enumeration.specs.Lawful.{Lawful}
use Rattle.enumeration.specs.Trials.{Valid}
use Rattle.enumeration.proofs.Basics.{apart, and_both}
use Rattle.enumeration.proofs.Stream.{rest, rest-pop, rest-shut, rest-open, level-end, later}
use Rattle.enumeration.proofs.Open.{tried_open, member-shut, stack-short, stack_top, stack-pop}

-- the words that a search has still to try
abbrev pub ahead : Family → State → List (List ℕ)
ahead F st = rest (is_open F) F.atoms st.stack st.next

-- how many words of a list pass
abbrev pub count : (List ℕ → Bool) → List (List ℕ) → ℕ
count t ws = length (keep t ws)

-- ---- unwinding, and a search that is done

-- unwinding changes no stream
pub rest-unwound :
    (G : List ℕ → Bool) (n : ℕ) (p : List ℕ) (c : ℕ) → rest G n (unwound n p c).0 (unwound n p c).1 ≡ rest G n p c
unfolding unwound
rest-unwound G n [] c = refl
rest-unwound G n (a ∷ p) c = go (eqb c (suc n)) refl (rest-unwound G n p (suc a))
  where
    go :
        (b : Bool) → eqb c (suc n) ≡ b →
        rest G n (unwound n p (suc a)).0 (unwound n p (suc a)).1 ≡ rest G n p (suc a) →
        let place = cond b (unwound n p (suc a)) (a ∷ p, c) in
        rest G n place.0 place.1 ≡ rest G n (a ∷ p) c
    go true e ih = ih ∙ sym (rest-pop G n a p) ∙ rw (eqb-true c (suc n) e)
    go false e ih = refl

pub done-place : (n : ℕ) (st : State) → is_done n st ≡ true → (st.stack ≡ []) × (st.next ≡ suc n)
unfolding is_done is_empty
done-place n st e =
    let (no_Stack, at-end) = and_both (is_empty st.stack) (eqb st.next (suc n)) e in
    (empty st.stack no_Stack, eqb-true st.next (suc n) at-end)
  where
    empty : (p : List ℕ) → is_empty p ≡ true → p ≡ []
    empty [] q = refl
    empty (a ∷ p) q = absurd (apart (sym q))

-- a search that is done has nothing to try
pub done-ahead : (F : Family) (st : State) → is_done F.atoms st ≡ true → ahead F st ≡ []
unfolding rest later
done-ahead F st e =
    let (no_Stack, at-end) = done-place F.atoms st e in
    rw (no_Stack, at-end, level-end (is_open F) F.atoms [])

-- ---- the counts

module _ (F : Family) where
  pub trial-trials : (st : State) → (trial F st).trials ≡ suc st.trials
  unfolding trial act
  trial-trials st = go (F.member (tried st)) (is_open F (tried st))
    where
      go : (m o : Bool) → (act F.atoms m o st).trials ≡ suc st.trials
      go true o = refl
      go false true = refl
      go false false = refl

  pub trial-listed : (st : State) → (trial F st).listed ≡ st.listed + count F.member (tried st ∷ [])
  unfolding trial act keep
  trial-listed st = go (F.member (tried st)) (is_open F (tried st))
    where
      go : (m o : Bool) → (act F.atoms m o st).listed ≡ st.listed + length (cond m (tried st ∷ []) [])
      go true o = omega arith
      go false true = omega arith
      go false false = omega arith

-- ---- one trial

module _ (F : Family) (L : Lawful F) where
  open F use {atoms as n, member}

  -- a place from which unwinding leads to a valid search
  pub unwound-valid :
      (p : List ℕ) (c t e l : ℕ) → is_open F (reverse p) ≡ true → 1 ≤ c → c ≤ suc n →
      Valid F (placed (unwound n p c) t e l)
  unfolding unwound is_done is_empty
  unwound-valid [] c t e l o low high = record { open_stack = o; low = low; within = λ d. not_end d }
    where
      not_end : eqb c (suc n) ≡ false → c ≤ n
      not_end d = omega (arith, eqb-false c (suc n) d)
  unwound-valid (a ∷ p) c t e l o low high =
      let a≤n : a ≤ n = (stack_top F L p a o).1 in
      go (eqb c (suc n)) refl (unwound-valid p (suc a) t e l (stack-pop F L p a o) (omega arith) (omega arith))
    where
      go :
          (b : Bool) → eqb c (suc n) ≡ b → Valid F (placed (unwound n p (suc a)) t e l) →
          Valid F (placed (cond b (unwound n p (suc a)) (a ∷ p, c)) t e l)
      go true q ih = ih
      go false q ih = record { open_stack = o; low = low; within = λ d. omega (arith, eqb-false c (suc n) q) }

  -- what one trial does to a valid search that is not done
  pub record Tried (before after : State) : Type 0 where
    pub valid : Valid F after
    pub stream : ahead F before ≡ tried before ∷ ahead F after

  -- a member that is tried is not open
  pub shut : (p : List ℕ) (c : ℕ) → member (reverse (c ∷ p)) ≡ true → is_open F (reverse (c ∷ p)) ≡ false
  shut p c e = sym (tried_open F p c) ∙ member-shut F L (reverse (c ∷ p)) e

  -- the trial of a word that is not open: the next atom
  rise :
      (st : State) (t e l : ℕ) → Valid F st → st.next ≤ n → is_open F (tried st) ≡ false →
      Tried st (placed (unwound n st.stack (suc st.next)) t e l)
  unfolding tried
  rise st t e l v c≤n o = record {
    valid = unwound-valid st.stack (suc st.next) t e l v.open_stack (omega arith) (omega arith);
    stream =
        rest-shut (is_open F) n st.stack st.next c≤n o ∙
        rw (rest-unwound (is_open F) n st.stack (suc st.next));
  }

  -- the trial of an open word: it becomes the beginning
  enter :
      (st : State) (t e l : ℕ) → st.next ≤ n → is_open F (tried st) ≡ true →
      Tried st (placed (unwound n (st.next ∷ st.stack) 1) t e l)
  unfolding tried
  enter st t e l c≤n o =
      let short = stack-short F L st.stack st.next o in
      record {
        valid = unwound-valid (st.next ∷ st.stack) 1 t e l o (omega arith) (omega arith);
        stream =
            rest-open (is_open F) n st.stack st.next c≤n short o ∙
            rw (rest-unwound (is_open F) n (st.next ∷ st.stack) 1);
      }

  pub trial-tried : (st : State) → Valid F st → is_done n st ≡ false → Tried st (trial F st)
  unfolding trial tried act
  trial-tried st v d = go (member (tried st)) (is_open F (tried st)) refl refl
    where
      go : (m o : Bool) → member (tried st) ≡ m → is_open F (tried st) ≡ o → Tried st (act n m o st)
      go true o e f =
          rise st (suc st.trials) st.extensions (suc st.listed) v (v.within d) (shut st.stack st.next e)
      go false true e f = enter st (suc st.trials) (suc st.extensions) st.listed (v.within d) f
      go false false e f = rise st (suc st.trials) st.extensions st.listed v (v.within d) f

  pub trial-extensions : (st : State) → (trial F st).extensions ≡ st.extensions + count (opens F) (tried st ∷ [])
  unfolding trial act keep tried
  trial-extensions st =
      rw (tried_open F st.stack st.next) (go (member (tried st)) (is_open F (tried st)) refl refl)
    where
      go :
          (m o : Bool) → member (tried st) ≡ m → is_open F (tried st) ≡ o →
          (act n m o st).extensions ≡ st.extensions + length (cond o (tried st ∷ []) [])
      go true true e f = absurd (apart (sym f ∙ shut st.stack st.next e))
      go true false e f = omega arith
      go false true e f = omega arith
      go false false e f = omega arith
