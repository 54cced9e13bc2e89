-- What holds of what stands whatever the calls began with: its parts, when it is done, and that calls handed it go on.
-- It is the search that they began with after the trials made (`Reached`): the theory of a search says the rest.
use Rattle.std.specs.Prelude.{Ok}
use Prim.Native.Nat.{ℕ, ◌+◌, ◌*◌, ◌≤◌}
use native.Mathlib.Omega.{arith}
use mathlib.Core.Path.{◌≡◌, refl, sym, ◌∙◌}
use mathlib.Core.Logic.{◌⊎◌, inl, inr}
use mathlib.Core.Bool.{Bool, true}
use mathlib.Core.List.{List}
use lib.ListN.{length}
use Rattle.enumeration.specs.declared.Stop.TheVariants.{Done, Limit}
use Rattle.enumeration.specs.Words.{Family}
use Rattle.enumeration.specs.Machine.{State, is_done}
use Rattle.enumeration.specs.Lawful.{Lawful}
use Rattle.enumeration.specs.Run.{Outcome, at_limit, run}
use Rattle.enumeration.specs.Trials.{Valid, steps, emitted}
use Rattle.enumeration.specs.RunFacts.{RunFacts}
use Rattle.enumeration.proofs.Theorems.{run-outcome, run-limit, run-keeps-valid, run-lists}
use Rattle.molecule.specs.declared.Molecule.{Molecule}
use Rattle.molecule.specs.Record.{well_formed}
use Rattle.search.specs.declared.Search.{Search}
use Rattle.search.specs.declared.Ran.{Ran}
use Rattle.search.specs.Place.{family_of, state_of, search_at, kind_kept}
use Rattle.search.specs.Entries.{run_search}
use Rattle.search.proofs.Readings.{family-atoms}
use Rattle.search.proofs.MarkLaws.{save-allowed}
use Rattle.history.specs.Calls.{Standing}
use Rattle.history.specs.Demand.{Progress, GoesOn}
use Rattle.history.proofs.Entered.{ran_at, save-wrote}
use Rattle.history.proofs.Reached.{Reached, state_at, lawful, valid-at, back-of, reached-restorable, reached-restores, reached-state, reached-runs}

-- ---- what is said

-- the parts of a search at a state
pub record Parts (kind s t : ℕ) (st : State) (q : Search) : Type 0 where
  pub kind_is : q.kind ≡ kind
  pub s_is : q.s ≡ s
  pub t_is : q.t ≡ t
  pub trials_is : q.trials ≡ st.trials
  pub extensions_is : q.extensions ≡ st.extensions
  pub listed_is : q.listed ≡ st.listed

parts : (kind s t : ℕ) (st : State) → Parts kind s t st (search_at kind s t st)
unfolding search_at
parts kind s t st = record {
  kind_is = refl;
  s_is = refl;
  t_is = refl;
  trials_is = refl;
  extensions_is = refl;
  listed_is = refl;
}

-- all that holds of x where it is reached
pub record Stood (R : Molecule) (kind s t : ℕ) (origin : State) (said : Bool) (k : ℕ) (x : Standing) : Type 0 where
  pub parts : Parts kind s t (state_at R kind s t origin k) x.search
  pub search_is : x.search ≡ search_at kind s t (steps (family_of R kind s t) x.made origin)
  pub trials_are : x.search.trials ≡ origin.trials + x.made
  pub done_at :
      is_done R.atoms (state_of x.search) ≡ true →
      is_done (family_of R kind s t).atoms (state_at R kind s t origin k) ≡ true
  pub said-done : said ≡ true → is_done R.atoms (state_of x.search) ≡ true
  pub goes_on : GoesOn R x

-- ---- where it is reached

module _ (R : Molecule) (kind s t : ℕ) (good : well_formed R ≡ true) (kept : kind_kept R.atoms kind s t ≡ true)
    (origin : State) (sound : Valid (family_of R kind s t) origin) where
  module _ (said : Bool) (k : ℕ) (x : Standing) (r : Reached R kind s t origin said k x) where
    pub parts-of : Parts kind s t (state_at R kind s t origin k) x.search
    parts-of = rw r.search_is (parts kind s t (state_at R kind s t origin k))

    -- the search after as many trials as were made, which trials counts
    pub search-stands : x.search ≡ search_at kind s t (steps (family_of R kind s t) x.made origin)
    search-stands = rw r.made_is r.search_is

    pub trials-stand : x.search.trials ≡ origin.trials + x.made
    trials-stand = omega (arith, parts-of.trials_is, r.counted, r.made_is)

    done-is :
        is_done R.atoms (state_of x.search) ≡ is_done (family_of R kind s t).atoms (state_at R kind s t origin k)
    done-is = rw (reached-state R kind s t good kept origin sound said k x r, family-atoms R kind s t)

    pub done-state :
        is_done R.atoms (state_of x.search) ≡ true →
        is_done (family_of R kind s t).atoms (state_at R kind s t origin k) ≡ true
    done-state e = sym done-is ∙ e

    pub said-stands : said ≡ true → is_done R.atoms (state_of x.search) ≡ true
    said-stands e = done-is ∙ r.finished e

    -- a run of it is the run of the state
    runs_as :
        (budget : ℕ) (out : List ℕ) →
        run_search R x.search budget out ≡
        Ok (ran_at kind s t (run (family_of R kind s t) budget (length out) (state_at R kind s t origin k)))
    runs_as = reached-runs R kind s t good kept origin sound said k x r

    progresses :
        (budget : ℕ) (out : List ℕ) (ran : Ran) → 2 * R.atoms * R.atoms ≤ budget → R.atoms + 1 ≤ length out →
        run_search R x.search budget out ≡ Ok ran → Progress x.search ran
    progresses budget out ran enough room e =
        let accepted = sym (runs_as budget out) ∙ e in
        let same : ran_at kind s t o ≡ ran = cc in
        rw (← same) (by o facts valid at-limit listing)
      where
        F : Family
        F = family_of R kind s t

        st : State
        st = state_at R kind s t origin k

        o : Outcome
        o = run F budget (length out) st

        facts : RunFacts F budget (length out) st o
        facts = run-outcome F budget (length out) st

        L : Lawful F
        L = lawful R kind s t good kept origin sound

        v : Valid F st
        v = valid-at R kind s t good kept origin sound k

        valid : Valid F o.state
        valid = run-keeps-valid F L budget (length out) st v

        at-limit : o.stop ≡ Limit → at_limit o.state ≡ true
        at-limit e = (run-limit F budget (length out) st e).1

        listing : (1 ≤ length (emitted F o.made st)) ⊎ ((o.stop ≡ Done) ⊎ (o.stop ≡ Limit))
        listing =
            let atoms = family-atoms R kind s t in
            run-lists F L budget (length out) st v (rw atoms enough) (rw atoms room)

        by :
            (o : Outcome) → RunFacts F budget (length out) st o → Valid F o.state →
            (o.stop ≡ Limit → at_limit o.state ≡ true) →
            (1 ≤ length (emitted F o.made st)) ⊎ ((o.stop ≡ Done) ⊎ (o.stop ≡ Limit)) →
            Progress x.search (ran_at kind s t o)
        by o w v limit (inl more) =
            inl (omega (arith, parts-of.listed_is, (parts kind s t o.state).listed_is, w.listing))
        by o w v limit (inr (inl done)) = inr (inl done)
        by o w v limit (inr (inr stops)) =
            let back = back-of R kind s t good kept origin sound o.state v in
            inr (inr (stops, rw back (limit stops)))

    pub goes_on : GoesOn R x
    goes_on =
        let passes = reached-restorable R kind s t good kept origin sound said k x r in
        record {
          run_accepted = λ budget out. (_, runs_as budget out);
          restore_accepted = reached-restores R kind s t good kept origin sound said k x r;
          save_answers = λ buffer. save-allowed R x.search buffer good passes;
          save_writes = λ buffer. save-wrote R good x.search buffer passes;
          progress = progresses;
        }

    -- all that holds of it
    pub stood : Stood R kind s t origin said k x
    stood = record {
      parts = parts-of;
      search_is = search-stands;
      trials_are = trials-stand;
      done_at = done-state;
      said-done = said-stands;
      goes_on = goes_on;
    }
