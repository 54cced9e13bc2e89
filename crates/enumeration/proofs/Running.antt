-- A run makes trials one by one, writes the records of what they list and stops for its reason.
-- By induction on the budget: a run is one trial and the run after it.
use Prim.Native.Nat.{ℕ, zero, suc, ◌+◌, ◌-◌, ◌*◌, ◌≤◌, ◌<◌}
use native.Mathlib.Omega.{arith}
use mathlib.Core.Path.{◌≡◌, refl, sym, ap, ◌∙◌}
use mathlib.Core.Logic.{◌⊎◌, inl, inr}
use mathlib.Core.Bool.{Bool, true, false, ◌||◌, cond}
use mathlib.Core.List.{List, [], ◌∷◌, ◌++◌, append_assoc, append-nil}
use lib.ListN.{length, length-append}
use lib.Dec.{ltb, eqb}
use borrow.Author.Tests.{lt-ltb, le-ltb, ltb-true, ltb-false, eqb-false}
use Rattle.enumeration.specs.declared.Stop.{Stop}
use Rattle.enumeration.specs.declared.Stop.TheVariants.{Done, Limit, Spent, Full}
use Rattle.enumeration.specs.Words.{Family, is_open}
use Rattle.enumeration.specs.Machine.{State, tried, is_done, act, trial}
use Rattle.enumeration.specs.Run.{Outcome, limit, at_limit, record_of, record_if, lists, stopped, after_trial, run}
use Rattle.enumeration.specs.Lawful.{Lawful}
use Rattle.enumeration.specs.Trials.{Valid, newly, steps, emitted, records}
use Rattle.enumeration.specs.RunFacts.{Bounded, Why, RunFacts}
use Rattle.enumeration.proofs.Basics.{apart, or-neither}
use Rattle.enumeration.proofs.Trial.{trial-trials}
use Rattle.enumeration.proofs.Steps.{moved-trial, steps-trial, listed-steps, valid-steps}
use Rattle.enumeration.proofs.Progress.{progresses}

pub records-append : (xs ys : List (List ℕ)) → records (xs ++ ys) ≡ records xs ++ records ys
unfolding records
records-append [] ys = refl
records-append (x ∷ xs) ys = rw (records-append xs ys) (sym (append_assoc (record_of x) (records xs) (records ys)))

-- ---- one step of the definition

module _ (F : Family) (room : ℕ) (st : State) where
  pub run-done : (budget : ℕ) → is_done F.atoms st ≡ true → run F budget room st ≡ stopped st Done
  unfolding run
  run-done zero d = rw d
  run-done (suc budget) d = rw d

  module _ (d : is_done F.atoms st ≡ false) where
    pub run-limit : (budget : ℕ) → at_limit st ≡ true → run F budget room st ≡ stopped st Limit
    unfolding run
    run-limit zero l = rw (d, l)
    run-limit (suc budget) l = rw (d, l)

    module _ (l : at_limit st ≡ false) where
      pub run-spent : (budget : ℕ) → budget ≡ 0 → run F budget room st ≡ stopped st Spent
      unfolding run
      run-spent zero e = rw (d, l)
      run-spent (suc budget) e = absurd (omega arith)

      pub run-full : (budget : ℕ) → 0 < budget → room < length (lists F st) → run F budget room st ≡ stopped st Full
      unfolding run
      run-full zero b h = absurd (omega arith)
      run-full (suc budget) b h = rw (d, l, lt-ltb room (length (lists F st)) h)

      pub run-turn :
          (budget : ℕ) → length (lists F st) ≤ room →
          run F (suc budget) room st ≡ after_trial (lists F st) (run F budget (room - length (lists F st)) (trial F st))
      unfolding run
      run-turn budget h = rw (d, l, le-ltb room (length (lists F st)) h)

-- ---- one trial and the run after it

module _ (F : Family) where
  open F use {atoms as n, member}

  lists-newly : (st : State) → is_done n st ≡ false → lists F st ≡ records (newly F st)
  unfolding lists newly records record_if record_of
  lists-newly st d = rw d (go (member (tried st)))
    where
      go : (b : Bool) → record_if b (tried st) ≡ records (cond b (tried st ∷ []) [])
      go true = sym (append-nil (record_of (tried st)))
      go false = refl

  emitted-trial :
      (k : ℕ) (st : State) → is_done n st ≡ false → emitted F (suc k) st ≡ newly F st ++ emitted F k (trial F st)
  unfolding emitted
  emitted-trial k st d = rw (moved-trial F st d)

  none_made :
      (budget room : ℕ) (st : State) (s : Stop) → Why F budget room (stopped st s) s →
      RunFacts F budget room st (stopped st s)
  unfolding steps emitted records
  none_made budget room st s w =
      record {
        stepped = refl;
        busy = λ j h. absurd (omega arith);
        wrote = refl;
        in_budget = omega arith;
        in_room = omega arith;
        counted = omega arith;
        listing = omega arith;
        why = w;
      }

  why-after :
      (budget room : ℕ) (bytes : List ℕ) (o : Outcome) → length bytes ≤ room → (s : Stop) →
      Why F budget (room - length bytes) o s → Why F (suc budget) room (after_trial bytes o) s
  why-after budget room bytes o h Done w = w
  why-after budget room bytes o h Limit w = w
  why-after budget room bytes o h Spent (not_done, below-limit, all_made) = (not_done, below-limit, ap suc all_made)
  why-after budget room bytes o h Full (not_done, below-limit, fewer, too_long) =
      (not_done, below-limit, omega arith, omega (arith, length-append bytes o.bytes))

  one-made :
      (budget room : ℕ) (st : State) (o : Outcome) → is_done n st ≡ false → length (lists F st) ≤ room →
      RunFacts F budget (room - length (lists F st)) (trial F st) o →
      RunFacts F (suc budget) room st (after_trial (lists F st) o)
  unfolding steps
  one-made budget room st o d h r = record {
    stepped = state_is;
    busy = busy-at;
    wrote =
        rw (
          emitted-trial o.made st d,
          records-append (newly F st) (emitted F o.made (trial F st)),
          lists-newly st d,
          r.wrote,
        );
    in_budget = omega (arith, r.in_budget);
    in_room = omega (arith, r.in_room, length-append (lists F st) o.bytes);
    counted = omega (arith, r.counted, trial-trials F st);
    listing = ap (λ (s : State). s.listed) state_is ∙ listed-steps F (suc o.made) st;
    why = why-after budget room (lists F st) o h o.stop r.why;
  }
    where
      state_is : o.state ≡ steps F (suc o.made) st
      state_is = r.stepped ∙ sym (steps-trial F o.made st d)

      busy-at : (j : ℕ) → j < suc o.made → is_done n (steps F j st) ≡ false
      busy-at zero l = d
      busy-at (suc j) l = rw (steps-trial F j st d) (r.busy j (omega arith))

  pub run_ran : (budget room : ℕ) (st : State) → RunFacts F budget room st (run F budget room st)
  unfolding run
  run_ran zero room st = go (is_done n st) (at_limit st) refl refl
    where
      go :
          (d l : Bool) → is_done n st ≡ d → at_limit st ≡ l →
          RunFacts F zero room st (cond d (stopped st Done) (cond l (stopped st Limit) (stopped st Spent)))
      go true l e f = none_made zero room st Done e
      go false true e f = none_made zero room st Limit (e, f)
      go false false e f = none_made zero room st Spent (e, f, refl)
  run_ran (suc budget) room st =
      let left = room - length (lists F st) in
      go (is_done n st) (at_limit st) (ltb room (length (lists F st))) refl refl refl
      (run F budget left (trial F st)) (run_ran budget left (trial F st))
    where
      go :
          (d l b : Bool) → is_done n st ≡ d → at_limit st ≡ l → ltb room (length (lists F st)) ≡ b →
          (o : Outcome) → RunFacts F budget (room - length (lists F st)) (trial F st) o →
          let going = cond b (stopped st Full) (after_trial (lists F st) o) in
          RunFacts F (suc budget) room st (cond d (stopped st Done) (cond l (stopped st Limit) going))
      go true l b e f g o ih = none_made (suc budget) room st Done e
      go false true b e f g o ih = none_made (suc budget) room st Limit (e, f)
      go false false true e f g o ih =
          let too_long : room < length (lists F st) = ltb-true room (length (lists F st)) g in
          none_made (suc budget) room st Full (e, f, omega arith, omega arith)
      go false false false e f g o ih = one-made budget room st o e (ltb-false room (length (lists F st)) g) ih

  -- ---- the limit

  below-limit : (x : ℕ) → x ≤ limit → eqb x limit ≡ false → suc x ≤ limit
  below-limit x h e = omega (arith, eqb-false x limit e)

  -- a trial before which no count stands at the limit takes none past it
  pub trial-bounded : (st : State) → Bounded st → at_limit st ≡ false → Bounded (trial F st)
  unfolding trial act at_limit
  trial-bounded st b e =
      let (t-or-x, l) = or-neither (eqb st.trials limit || eqb st.extensions limit) (eqb st.listed limit) e in
      let (t, x) = or-neither (eqb st.trials limit) (eqb st.extensions limit) t-or-x in
      let trials = below-limit st.trials b.trials_most t in
      let extensions = below-limit st.extensions b.extensions_most x in
      let listed = below-limit st.listed b.listed_most l in
      go trials extensions listed (member (tried st)) (is_open F (tried st))
    where
      go :
          suc st.trials ≤ limit → suc st.extensions ≤ limit → suc st.listed ≤ limit →
          (m o : Bool) → Bounded (act n m o st)
      go t x l true o = record { trials_most = t; extensions_most = b.extensions_most; listed_most = l }
      go t x l false true = record { trials_most = t; extensions_most = x; listed_most = b.listed_most }
      go t x l false false =
          record { trials_most = t; extensions_most = b.extensions_most; listed_most = b.listed_most }

  -- a run takes no count past the limit
  pub run-bounded : (budget room : ℕ) (st : State) → Bounded st → Bounded (run F budget room st).state
  unfolding run
  run-bounded zero room st b = go (is_done n st) (at_limit st)
    where
      go : (d l : Bool) → Bounded (cond d (stopped st Done) (cond l (stopped st Limit) (stopped st Spent))).state
      go true l = b
      go false true = b
      go false false = b
  run-bounded (suc budget) room st b =
      let left = room - length (lists F st) in
      go (is_done n st) (at_limit st) (ltb room (length (lists F st))) refl (run F budget left (trial F st))
      (λ (e : at_limit st ≡ false). run-bounded budget left (trial F st) (trial-bounded st b e))
    where
      go :
          (d l f : Bool) → at_limit st ≡ l → (o : Outcome) → (at_limit st ≡ false → Bounded o.state) →
          let going = cond f (stopped st Full) (after_trial (lists F st) o) in
          Bounded (cond d (stopped st Done) (cond l (stopped st Limit) going)).state
      go true l f e o ih = b
      go false true f e o ih = b
      go false false true e o ih = b
      go false false false e o ih = ih e

-- ---- runs of a lawful family

-- a run has listed a member, or stopped done or at the limit
abbrev Progressed : Family → State → Outcome → Type 0
Progressed F st o = (1 ≤ length (emitted F o.made st)) ⊎ ((o.stop ≡ Done) ⊎ (o.stop ≡ Limit))

module _ (F : Family) (L : Lawful F) where
  open F use {atoms as n, member}

  pub run-valid : (budget room : ℕ) (st : State) → Valid F st → Valid F (run F budget room st).state
  run-valid budget room st v =
      rw (run_ran F budget room st).stepped (valid-steps F L (run F budget room st).made st v)

  lists-short : (st : State) → length (lists F st) ≤ suc n
  unfolding lists record_if record_of
  lists-short st = go (member (tried st)) refl
    where
      go : (b : Bool) → member (tried st) ≡ b → length (record_if b (tried st)) ≤ suc n
      go true e = omega (arith, L.short (tried st) e)
      go false e = omega arith

  pub run-progress :
      (budget room : ℕ) (st : State) → Valid F st → 2 * n * n ≤ budget → n + 1 ≤ room →
      (1 ≤ length (emitted F (run F budget room st).made st)) ⊎
      (((run F budget room st).stop ≡ Done) ⊎ ((run F budget room st).stop ≡ Limit))
  unfolding records
  run-progress budget room st v h room-left =
      let o = run F budget room st in
      let facts = run_ran F budget room st in
      by-stop o facts o.stop refl facts.why
    where
      spent : (k : ℕ) → budget ≤ k → is_done n (steps F k st) ≡ false → 1 ≤ length (emitted F k st)
      spent k b not_done = elim (progresses F L k st v (omega arith)) [
        | inl done ↦ absurd (apart (sym done ∙ not_done))
        | inr more ↦ omega (arith, listed-steps F k st)
      ]

      full :
          (ws : List (List ℕ)) (bytes : List ℕ) (s : State) → bytes ≡ records ws →
          room < length bytes + length (lists F s) → 1 ≤ length ws
      full [] bytes s e f = absurd (omega (arith, ap length e, lists-short s))
      full (w ∷ ws) bytes s e f = omega arith

      by-stop :
          (o : Outcome) → RunFacts F budget room st o → (s : Stop) → o.stop ≡ s → Why F budget room o s →
          Progressed F st o
      by-stop o r Done e w = inr (inl e)
      by-stop o r Limit e w = inr (inr e)
      by-stop o r Spent e (not_done, below-limit, all_made) =
          inl (spent o.made (omega arith) (rw r.stepped at not_done))
      by-stop o r Full e (not_done, below-limit, fewer, too_long) =
          inl (full (emitted F o.made st) o.bytes o.state r.wrote too_long)
