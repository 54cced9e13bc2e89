-- What stands after any list of calls is the search that they began with after as many trials as were made, and the
-- sheet what those trials list. By induction on the list: a run makes trials, every other call leaves all as it was.
use Rattle.std.specs.Prelude.{Err, Ok, Result, is_err}
use Prim.Native.Nat.{ℕ, ◌+◌, ◌≤◌}
use native.Mathlib.Omega.{arith}
use mathlib.Core.Path.{◌≡◌, refl, sym, ap, ◌∙◌}
use mathlib.Core.Logic.{◌⊎◌, inl, inr}
use mathlib.Core.Bool.{Bool, true, false, ◌||◌, or-false, or_assoc}
use mathlib.Core.List.{List, [], ◌∷◌}
use lib.ListN.{length, take}
use Rattle.graph.proofs.Below.{clash}
use Rattle.enumeration.specs.declared.Stop.{Stop}
use Rattle.enumeration.specs.declared.Stop.TheVariants.{Done, Limit, Spent, Full}
use Rattle.enumeration.specs.Machine.{State, is_done}
use Rattle.enumeration.specs.Run.{Outcome, run}
use Rattle.enumeration.specs.Lawful.{Lawful}
use Rattle.enumeration.specs.Trials.{Valid, steps, emitted, records}
use Rattle.enumeration.specs.RunFacts.{Bounded, RunFacts}
use Rattle.enumeration.proofs.Basics.{or-either}
use Rattle.enumeration.proofs.Running.{records-append}
use Rattle.enumeration.proofs.Theorems.{steps-composed, emitted-composed, steps-stay, run-outcome, run-keeps-bounded, run-done, steps-valid, valid-short}
use Rattle.molecule.specs.declared.Molecule.{Molecule}
use Rattle.molecule.specs.Record.{well_formed}
use Rattle.molecule.proofs.Bonds.{rule9}
use Rattle.search.specs.declared.Search.{Search}
use Rattle.search.specs.declared.Ran.{Ran}
use Rattle.search.proofs.MarkLaws.{saved-restores}
use Rattle.search.proofs.Readings.{family-atoms, family-lawful}
use Rattle.search.proofs.Views.{state-search, valid-restorable}
use Rattle.search.specs.Place.{family_of, state_of, search_at, kind_kept, restorable}
use Rattle.search.specs.Entries.{run_search, run_output}
use Rattle.search.specs.Mark.{mark_text, restore_mark}
use Rattle.history.specs.Calls.{Call, runs, saves, restores, Standing, refused, after_call, standing, Handed, Allowed, History, is_done_stop, ran_done, says_done, said_done}
use Rattle.history.specs.Calls as calls
use Rattle.history.specs.Resumed.{restored_start}
use Rattle.history.proofs.Entered.{ran_at, moved_by, prefix-size, run_at, wrote_at}
use Rattle.refusal.specs.declared.Refusal.{Refusal}

-- the search of a kind, s and t, k trials after the state that it began with
abbrev pub state_at : Molecule → ℕ → ℕ → ℕ → State → ℕ → State
state_at R kind s t origin k = steps (family_of R kind s t) k origin

-- x is what stands after k trials, none of them after done; if a run said done, the search is done
pub record Reached (R : Molecule) (kind s t : ℕ) (origin : State) (said : Bool) (k : ℕ) (x : Standing) : Type 0 where
  pub search_is : x.search ≡ search_at kind s t (state_at R kind s t origin k)
  pub sheet_is : x.sheet ≡ records (emitted (family_of R kind s t) k origin)
  pub made_is : x.made ≡ k
  pub counted : (state_at R kind s t origin k).trials ≡ origin.trials + k
  pub bounded : Bounded (state_at R kind s t origin k)
  pub finished : said ≡ true → is_done (family_of R kind s t).atoms (state_at R kind s t origin k) ≡ true

-- ---- calls that change nothing

stop-done : (why : Stop) → is_done_stop why ≡ true → why ≡ Done
stop-done Done e = refl
stop-done Limit e = absurd (clash false e refl)
stop-done Spent e = absurd (clash false e refl)
stop-done Full e = absurd (clash false e refl)

run-refused :
    (x : Standing) (out : List ℕ) (answer : Result Ran Refusal) → is_err answer ≡ true →
    calls.after_run x out answer ≡ x
run-refused x out (Ok r) e = absurd (clash false e refl)
run-refused x out (Err r) e = refl

restore-refused :
    (x : Standing) (answer : Result Search Refusal) → is_err answer ≡ true → calls.after_restore x answer ≡ x
restore-refused x (Ok q) e = absurd (clash false e refl)
restore-refused x (Err r) e = refl

after-refused : (x : Standing) (call : Call) → refused call ≡ true → after_call x call ≡ x
unfolding after_call refused
after-refused x (runs mol q budget out) e = run-refused x (run_output mol q budget out) (run_search mol q budget out) e
after-refused x (saves mol q buffer) e = refl
after-refused x (restores mol mark) e = restore-refused x (restore_mark mol mark) e

pub after-save : (x : Standing) (mol : Molecule) (q : Search) (buffer : List ℕ) → after_call x (saves mol q buffer) ≡ x
unfolding after_call
after-save x mol q buffer = refl

-- a run that is refused does not say done
not-done : (answer : Result Ran Refusal) → is_err answer ≡ true → ran_done answer ≡ false
not-done (Ok r) e = absurd (clash false e refl)
not-done (Err r) e = refl

refused_says : (call : Call) → refused call ≡ true → says_done call ≡ false
unfolding refused says_done
refused_says (runs mol q budget out) e = not-done (run_search mol q budget out) e
refused_says (saves mol q buffer) e = refl
refused_says (restores mol mark) e = refl

-- ---- searches begun at a valid state

module _ (R : Molecule) (kind s t : ℕ) (good : well_formed R ≡ true) (kept : kind_kept R.atoms kind s t ≡ true)
    (origin : State) (sound : Valid (family_of R kind s t) origin) where
  pub lawful : Lawful (family_of R kind s t)
  lawful = family-lawful R kind s t

  pub valid-at : (k : ℕ) → Valid (family_of R kind s t) (state_at R kind s t origin k)
  valid-at k = steps-valid (family_of R kind s t) lawful k origin sound

  short-of : (st : State) → Valid (family_of R kind s t) st → length st.stack ≤ 128
  short-of st v =
      omega (arith, valid-short (family_of R kind s t) lawful st v, family-atoms R kind s t, (rule9 R good).atoms_high)

  pub back-of : (st : State) → Valid (family_of R kind s t) st → state_of (search_at kind s t st) ≡ st
  back-of st v = state-search kind s t st

  -- at the start
  pub reached-start :
      Bounded origin → (x : Standing) → x ≡ restored_start (search_at kind s t origin) →
      Reached R kind s t origin false 0 x
  unfolding restored_start steps emitted records
  reached-start b x e =
      rw e (record {
        search_is = refl;
        sheet_is = refl;
        made_is = refl;
        counted = omega arith;
        bounded = b;
        finished = λ e. absurd (clash false e refl);
      })

  module _ (said : Bool) (k : ℕ) (x : Standing) (r : Reached R kind s t origin said k x) where
    abbrev now : State
    now = state_at R kind s t origin k

    pub passes_at : restorable R (search_at kind s t (state_at R kind s t origin k)) ≡ true
    passes_at = valid-restorable R kind s t good kept now (valid-at k) r.bounded

    -- the search passes rule 12, and its mark restores it
    pub reached-restorable : restorable R x.search ≡ true
    reached-restorable = rw r.search_is passes_at

    pub reached-restores : restore_mark R (mark_text R x.search) ≡ Ok x.search
    reached-restores =
        let size = prefix-size kind s t now (short-of now (valid-at k)) in
        saved-restores R x.search good reached-restorable (rw r.search_is size)

    pub reached-state : state_of x.search ≡ state_at R kind s t origin k
    reached-state = rw r.search_is (back-of now (valid-at k))

    -- a run of it is the run of the state
    pub reached-runs :
        (budget : ℕ) (out : List ℕ) →
        run_search R x.search budget out ≡
        Ok (ran_at kind s t (run (family_of R kind s t) budget (length out) (state_at R kind s t origin k)))
    reached-runs budget out =
        rw r.search_is (run_at R good kind s t now (back-of now (valid-at k)) passes_at budget out)

    reached-wrote :
        (budget : ℕ) (out : List ℕ) →
        let o = run (family_of R kind s t) budget (length out) now in
        take (length o.bytes) (run_output R x.search budget out) ≡ o.bytes
    reached-wrote budget out =
        rw r.search_is (wrote_at R good kind s t now (back-of now (valid-at k)) passes_at budget out)

    pub after_run :
        (budget : ℕ) (out : List ℕ) →
        after_call x (runs R x.search budget out) ≡
        moved_by kind s t x (run (family_of R kind s t) budget (length out) (state_at R kind s t origin k))
    unfolding after_call
    after_run budget out = rw (reached-runs budget out, reached-wrote budget out)

    -- a restore of its mark leaves all as it was
    pub after-restore : after_call x (restores R (mark_text R x.search)) ≡ x
    unfolding after_call
    after-restore = rw reached-restores

    -- the outcome of a run is reached too
    moved-reached :
        (budget room : ℕ) (o : Outcome) → RunFacts (family_of R kind s t) budget room now o →
        Bounded o.state → (o.stop ≡ Done → is_done (family_of R kind s t).atoms o.state ≡ true) →
        Reached R kind s t origin (said || is_done_stop o.stop) (k + o.made) (moved_by kind s t x o)
    moved-reached budget room o w b done = record {
      search_is = ap (search_at kind s t) state_is;
      sheet_is = rw (emitted-composed (family_of R kind s t) k o.made origin, records-append, r.sheet_is, w.wrote);
      made_is = omega (arith, r.made_is);
      counted = omega (arith, ap (λ (st : State). st.trials) state_is, w.counted, r.counted);
      bounded = rw state_is at b;
      finished = λ e. rw (← state_is) (done-by (or-either said (is_done_stop o.stop) e));
    }
      where
        state_is : o.state ≡ state_at R kind s t origin (k + o.made)
        state_is = w.stepped ∙ sym (steps-composed (family_of R kind s t) k o.made origin)

        -- done before the run, and so unchanged by it, or done by it
        done-by : (said ≡ true) ⊎ (is_done_stop o.stop ≡ true) → is_done (family_of R kind s t).atoms o.state ≡ true
        done-by (inl e) =
            let was-done = r.finished e in
            rw (w.stepped, steps-stay (family_of R kind s t) o.made now was-done) was-done
        done-by (inr e) = done (stop-done o.stop e)

    -- what stands after a call is reached too
    abbrev Goes : Call → Type 0
    Goes call = (k' : ℕ) × Reached R kind s t origin (said || says_done call) k' (after_call x call)

    -- a run handed the search as it stands
    run-reached : (budget : ℕ) (out : List ℕ) → Goes (runs R x.search budget out)
    unfolding says_done
    run-reached budget out =
        let F = family_of R kind s t in
        let o = run F budget (length out) now in
        let facts = run-outcome F budget (length out) now in
        let bounded = run-keeps-bounded F budget (length out) now r.bounded in
        let moved = moved-reached budget (length out) o facts bounded (run-done F budget (length out) now) in
        (k + o.made, rw (after_run budget out, reached-runs budget out) moved)

    -- a call that leaves all as it was
    same-reached : (call : Call) → after_call x call ≡ x → says_done call ≡ false → Goes call
    same-reached call e f = (k, rw (e, f, or-false said) r)

    handed-reached : (call : Call) → Handed R x.search call → Goes call
    unfolding says_done
    handed-reached (runs mol p budget out) (same-mol, same_search) = rw (same-mol, same_search) (run-reached budget out)
    handed-reached (saves mol p buffer) h = same-reached (saves mol p buffer) (after-save x mol p buffer) refl
    handed-reached (restores mol mark) (same-mol, same_mark) =
        rw (same-mol, same_mark) (same-reached (restores R (mark_text R x.search)) after-restore refl)

    -- any call that is allowed
    pub allowed-reached :
        (call : Call) → Allowed R x call →
        (k' : ℕ) × Reached R kind s t origin (said || says_done call) k' (after_call x call)
    allowed-reached call (inl e) = same-reached call (after-refused x call e) (refused_says call e)
    allowed-reached call (inr h) = handed-reached call h

  pub list-reached :
      (calls : List Call) (x : Standing) → History R x calls →
      (said : Bool) (k : ℕ) → Reached R kind s t origin said k x →
      (k' : ℕ) × Reached R kind s t origin (said || said_done calls) k' (standing x calls)
  unfolding standing said_done
  list-reached [] x h said k r = (k, rw (or-false said) r)
  list-reached (call ∷ calls) x (allowed, later) said k r =
      let (k', next) = allowed-reached said k x r call allowed in
      rw (← or_assoc said (says_done call) (said_done calls))
      (list-reached calls (after_call x call) later (said || says_done call) k' next)
