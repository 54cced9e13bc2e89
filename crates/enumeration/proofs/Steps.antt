-- Many trials: the words tried are the front of the stream; the counts count that front; at the end it is all of it.
-- By induction on the number of trials, one trial at a time.
use Prim.Native.Nat.{ℕ, zero, suc, ◌+◌, ◌≤◌}
use native.Mathlib.Omega.{arith}
use native.Mathlib.Nat.{zero-add, suc-add}
use mathlib.Core.Path.{◌≡◌, refl, sym, ap, ◌∙◌}
use mathlib.Core.Logic.{inl, inr}
use mathlib.Core.Bool.{Bool, true, false, cond}
use mathlib.Core.List.{List, [], ◌∷◌, ◌++◌, append_assoc, append-nil}
use lib.ListN.{length, length-append}
use lib.Dec.{eqb}
use borrow.Author.Tests.{eqb-false}
use Rattle.enumeration.specs.Words.{Family, keep, is_open}
use Rattle.enumeration.specs.Machine.{State, fresh, tried, is_empty, is_done, trial}
use Rattle.enumeration.specs.Listing.{opens}
use Rattle.enumeration.specs.Lawful.{Lawful}
use Rattle.enumeration.specs.Trials.{Valid, moved, newly, attempt, steps, emitted, attempts}
use Rattle.enumeration.proofs.Basics.{apart, decided, not-true-false, keep_append}
use Rattle.enumeration.proofs.Trial.{ahead, count, done-ahead, trial-tried, trial-trials, trial-listed, trial-extensions}

-- ---- one trial, or nothing where the search is done

module _ (F : Family) where
  open F use {atoms as n, member}

  pub moved-done : (st : State) → is_done n st ≡ true → moved F st ≡ st
  unfolding moved
  moved-done st d = rw d

  pub moved-trial : (st : State) → is_done n st ≡ false → moved F st ≡ trial F st
  unfolding moved
  moved-trial st d = rw d

  attempt-done : (st : State) → is_done n st ≡ true → attempt F st ≡ []
  unfolding attempt
  attempt-done st d = rw d

  pub attempt-tried : (st : State) → is_done n st ≡ false → attempt F st ≡ tried st ∷ []
  unfolding attempt
  attempt-tried st d = rw d

  newly-keep : (st : State) → newly F st ≡ keep member (attempt F st)
  unfolding newly attempt keep
  newly-keep st = go (is_done n st)
    where
      go :
          (b : Bool) →
          cond b [] (cond (member (tried st)) (tried st ∷ []) []) ≡ keep member (cond b [] (tried st ∷ []))
      go true = refl
      go false = refl

  -- ---- composition

  pub steps-add : (j k : ℕ) (st : State) → steps F (j + k) st ≡ steps F k (steps F j st)
  unfolding steps
  steps-add zero k st = rw (zero-add k)
  steps-add (suc j) k st = rw (suc-add j k) (steps-add j k (moved F st))

  pub emitted-add : (j k : ℕ) (st : State) → emitted F (j + k) st ≡ emitted F j st ++ emitted F k (steps F j st)
  unfolding steps emitted
  emitted-add zero k st = rw (zero-add k)
  emitted-add (suc j) k st = rw (suc-add j k, emitted-add j k (moved F st)) (sym (append_assoc (newly F st) _ _))

  -- a search that is done stays as it is
  pub steps-done : (k : ℕ) (st : State) → is_done n st ≡ true → steps F k st ≡ st
  unfolding steps
  steps-done zero st d = refl
  steps-done (suc k) st d = rw (moved-done st d) (steps-done k st d)

  pub steps-trial : (k : ℕ) (st : State) → is_done n st ≡ false → steps F (suc k) st ≡ steps F k (trial F st)
  unfolding steps
  steps-trial k st d = ap (steps F k) (moved-trial st d)

  pub emitted-keep : (k : ℕ) (st : State) → emitted F k st ≡ keep member (attempts F k st)
  unfolding emitted attempts keep
  emitted-keep zero st = refl
  emitted-keep (suc k) st =
      rw (newly-keep st, emitted-keep k (moved F st), keep_append member (attempt F st) (attempts F k (moved F st)))

  -- ---- how many trials are made

  -- as long as the search was not done before the last of them, all are made
  pub attempts-all :
      (k j : ℕ) (st : State) → k ≤ suc j → is_done n (steps F j st) ≡ false → length (attempts F k st) ≡ k
  unfolding steps attempts
  attempts-all zero j st h d = refl
  attempts-all (suc zero) zero st h d = rw (attempt-tried st d)
  attempts-all (suc (suc k)) zero st h d = absurd (omega arith)
  attempts-all (suc k) (suc j) st h d =
      rw (attempt-tried st (before j st d), attempts-all k j (moved F st) (omega arith) d)
    where
      -- a search that is not done after some trials was not done before them
      before : (i : ℕ) (s : State) → is_done n (steps F i (moved F s)) ≡ false → is_done n s ≡ false
      before i s e = not-true-false (is_done n s) (λ q. apart (sym q ∙ (rw (moved-done s q, steps-done i s q) at e)))

  -- so the search after k trials is the search after those that were made
  pub steps-made : (k : ℕ) (st : State) → steps F (length (attempts F k st)) st ≡ steps F k st
  unfolding steps attempts
  steps-made zero st = refl
  steps-made (suc k) st = elim (decided (is_done n st)) [
    | inl done ↦
        let stays : steps F k (moved F st) ≡ st = rw (moved-done st done) (steps-done k st done) in
        steps-done (length (attempt F st ++ attempts F k (moved F st))) st done ∙ sym stays
    | inr not_done ↦ rw (attempt-tried st not_done) (steps-made k (moved F st))
  ]

  -- and never more than k
  pub attempts-most : (k : ℕ) (st : State) → length (attempts F k st) ≤ k
  unfolding attempts
  attempts-most zero st = omega arith
  attempts-most (suc k) st =
      let ih = attempts-most k (moved F st) in
      elim (decided (is_done n st)) [
        | inl done ↦ rw (attempt-done st done) (omega arith)
        | inr not_done ↦ rw (attempt-tried st not_done) (omega arith)
      ]

  -- ---- the counts

  counted :
      (f : State → ℕ) (t : List ℕ → Bool) → ((st : State) → f (trial F st) ≡ f st + count t (tried st ∷ [])) →
      (st : State) → f (moved F st) ≡ f st + count t (attempt F st)
  unfolding keep
  counted f t h st = elim (decided (is_done n st)) [
    | inl done ↦ rw (moved-done st done, attempt-done st done) (omega arith)
    | inr not_done ↦ rw (moved-trial st not_done, attempt-tried st not_done) (h st)
  ]

  -- a number that each trial raises by the words tried that pass
  counts :
      (f : State → ℕ) (t : List ℕ → Bool) → ((st : State) → f (trial F st) ≡ f st + count t (tried st ∷ [])) →
      (k : ℕ) (st : State) → f (steps F k st) ≡ f st + count t (attempts F k st)
  unfolding steps attempts keep
  counts f t h zero st = omega arith
  counts f t h (suc k) st =
      let one = counted f t h st in
      let others = counts f t h k (moved F st) in
      rw (keep_append t (attempt F st) (attempts F k (moved F st))) (simp length-append (omega arith))

  pub listed-steps : (k : ℕ) (st : State) → (steps F k st).listed ≡ st.listed + length (emitted F k st)
  listed-steps k st = rw (emitted-keep k st) (counts (λ (s : State). s.listed) member (trial-listed F) k st)

  pub trials-steps : (k : ℕ) (st : State) → (steps F k st).trials ≡ st.trials + length (attempts F k st)
  unfolding steps attempts
  trials-steps zero st = omega arith
  trials-steps (suc k) st = elim (decided (is_done n st)) [
    | inl done ↦
        let same : (moved F st).trials ≡ st.trials = rw (moved-done st done) in
        rw (attempt-done st done) (omega (arith, trials-steps k (moved F st)))
    | inr not_done ↦
        let one : (moved F st).trials ≡ suc st.trials = rw (moved-trial st not_done) (trial-trials F st) in
        rw (attempt-tried st not_done) (omega (arith, trials-steps k (moved F st)))
  ]

module _ (F : Family) (L : Lawful F) where
  open F use {atoms as n, member}

  pub extensions-steps :
      (k : ℕ) (st : State) → (steps F k st).extensions ≡ st.extensions + count (opens F) (attempts F k st)
  extensions-steps k st = counts F (λ (s : State). s.extensions) (opens F) (trial-extensions F L) k st

  -- ---- the stream

  pub valid-moved : (st : State) → Valid F st → Valid F (moved F st)
  valid-moved st v = elim (decided (is_done n st)) [
    | inl done ↦ rw (moved-done F st done) v
    | inr not_done ↦ rw (moved-trial F st not_done) (trial-tried F L st v not_done).valid
  ]

  pub valid-steps : (k : ℕ) (st : State) → Valid F st → Valid F (steps F k st)
  unfolding steps
  valid-steps zero st v = v
  valid-steps (suc k) st v = valid-steps k (moved F st) (valid-moved st v)

  pub valid-fresh : Valid F fresh
  unfolding fresh is_open is_done is_empty
  valid-fresh = record { open_stack = refl; low = omega arith; within = λ d. start d }
    where
      start : eqb 1 (suc (n)) ≡ false → 1 ≤ n
      start d = omega (arith, eqb-false 1 (suc (n)) d)

  moved-stream : (st : State) → Valid F st → attempt F st ++ ahead F (moved F st) ≡ ahead F st
  moved-stream st v = elim (decided (is_done n st)) [
    | inl done ↦ rw (moved-done F st done, attempt-done F st done)
    | inr not_done ↦
        rw (moved-trial F st not_done, attempt-tried F st not_done) (sym (trial-tried F L st v not_done).stream)
  ]

  -- the words tried are the front of the stream
  pub steps-stream : (k : ℕ) (st : State) → Valid F st → attempts F k st ++ ahead F (steps F k st) ≡ ahead F st
  unfolding steps attempts
  steps-stream zero st v = refl
  steps-stream (suc k) st v =
      append_assoc (attempt F st) (attempts F k (moved F st)) (ahead F (steps F k (moved F st))) ∙
      rw (steps-stream k (moved F st) (valid-moved st v)) (moved-stream st v)

  -- so the words listed are the first of its members
  pub emitted-front :
      (k : ℕ) (st : State) → Valid F st →
      keep member (ahead F st) ≡ emitted F k st ++ keep member (ahead F (steps F k st))
  emitted-front k st v =
      let front = attempts F k st in
      let left = ahead F (steps F k st) in
      rw (emitted-keep F k st, ← keep_append member front left, steps-stream k st v)

  -- once done, they are all of it
  pub done-stream :
      (k : ℕ) (st : State) → Valid F st → is_done n (steps F k st) ≡ true → attempts F k st ≡ ahead F st
  done-stream k st v d =
      let none_left : ahead F (steps F k st) ≡ [] = done-ahead F (steps F k st) d in
      rw (none_left, append-nil) at (steps-stream k st v)

  -- a valid search is done after as many trials as it has words to try
  pub done_at : (st : State) → Valid F st → is_done n (steps F (length (ahead F st)) st) ≡ true
  done_at st v = elim (decided (is_done n (steps F (length (ahead F st)) st))) [
    | inl done ↦ done
    | inr not_done ↦ absurd (over not_done)
  ]
    where
      k : ℕ
      k = length (ahead F st)

      -- as many trials as there are words leave none
      over : is_done n (steps F k st) ≡ false → ⊥
      over not_done =
          let made = attempts-all F k k st (omega arith) not_done in
          let one_left = ap length (trial-tried F L (steps F k st) (valid-steps k st v) not_done).stream in
          let whole = ap length (steps-stream k st v) in
          omega (arith, length-append (attempts F k st) (ahead F (steps F k st)))
