-- What runs, saves and restores answer when they are handed the search at a state: a run is the run of that state.
-- From the definitions, rules 9 and 12 being kept.
use Rattle.std.specs.Prelude.{Ok}
use Prim.Native.Nat.{ℕ, ◌+◌, ◌≤◌}
use native.Mathlib.Omega.{arith}
use mathlib.Core.Path.{◌≡◌, refl, ap, ◌∙◌}
use mathlib.Core.Bool.{true}
use mathlib.Core.List.{List, ◌++◌}
use lib.ListN.{length, take, drop, length-append, length-replicate, length-reverse}
use lib.Seq.{take-append_seam}
use borrow.Author.Tests.{le-leb}
use Rattle.enumeration.specs.Machine.{State}
use Rattle.enumeration.specs.Run.{Outcome, run}
use Rattle.molecule.specs.declared.Molecule.{Molecule}
use Rattle.molecule.specs.Record.{well_formed}
use Rattle.search.specs.declared.Search.{Search}
use Rattle.search.specs.declared.Ran.{Ran}
use Rattle.search.specs.Place.{family_of, state_of, held, search_at, restorable}
use Rattle.search.specs.Entries.{outcome, ran, run_search, run_output}
use Rattle.search.specs.Mark.{mark_text, save_output}
use Rattle.search.proofs.MarkLaws.{save-allowed}
use Rattle.history.specs.Calls.{Standing}

-- what the run of a state returns for a search of a kind, s and t
abbrev pub ran_at : ℕ → ℕ → ℕ → Outcome → Ran
ran_at kind s t o = record {
  stop = o.stop;
  search = search_at kind s t o.state;
  used = length o.bytes;
  made = o.made;
}

-- what stands after it
abbrev pub moved_by : ℕ → ℕ → ℕ → Standing → Outcome → Standing
moved_by kind s t x o = record {
  search = search_at kind s t o.state;
  sheet = x.sheet ++ o.bytes;
  made = x.made + o.made;
}

-- ---- sizes

-- the array of a search at a state has 128 places
pub prefix-size : (kind s t : ℕ) (st : State) → length st.stack ≤ 128 → length (search_at kind s t st).prefix ≡ 128
unfolding search_at held
prefix-size kind s t st h =
    simp (length-append, length-replicate, length-reverse) (omega arith)

-- ---- answers

module _ (R : Molecule) (good : well_formed R ≡ true) where
  run-answers :
      (q : Search) (budget : ℕ) (out : List ℕ) → restorable R q ≡ true →
      run_search R q budget out ≡ Ok (ran q (outcome R q budget out))
  unfolding run_search
  run-answers q budget out e = rw (good, e)

  run-wrote :
      (q : Search) (budget : ℕ) (out : List ℕ) → restorable R q ≡ true →
      take (length (outcome R q budget out).bytes) (run_output R q budget out) ≡ (outcome R q budget out).bytes
  unfolding run_output
  run-wrote q budget out e =
      let bytes = (outcome R q budget out).bytes in
      rw (good, e) (take-append_seam bytes (drop (length bytes) out))

  pub save-wrote :
      (q : Search) (buffer : List ℕ) → restorable R q ≡ true → length (mark_text R q) ≤ length buffer →
      save_output R q buffer ≡ mark_text R q ++ drop (length (mark_text R q)) buffer
  unfolding save_output
  save-wrote q buffer e h = rw (save-allowed R q buffer good e, le-leb (length (mark_text R q)) (length buffer) h)

  module _ (kind s t : ℕ) (st : State) (back : state_of (search_at kind s t st) ≡ st)
      (passes : restorable R (search_at kind s t st) ≡ true) where
    outcome-at :
        (budget : ℕ) (out : List ℕ) →
        outcome R (search_at kind s t st) budget out ≡ run (family_of R kind s t) budget (length out) st
    unfolding search_at
    outcome-at budget out = ap (run (family_of R kind s t) budget (length out)) back

    ran-at : (o : Outcome) → ran (search_at kind s t st) o ≡ ran_at kind s t o
    unfolding search_at
    ran-at o = refl

    pub run_at :
        (budget : ℕ) (out : List ℕ) →
        run_search R (search_at kind s t st) budget out ≡
        Ok (ran_at kind s t (run (family_of R kind s t) budget (length out) st))
    run_at budget out =
        run-answers (search_at kind s t st) budget out passes ∙
        ap Ok (ran-at (outcome R (search_at kind s t st) budget out) ∙ ap (ran_at kind s t) (outcome-at budget out))

    pub wrote_at :
        (budget : ℕ) (out : List ℕ) →
        let o = run (family_of R kind s t) budget (length out) st in
        take (length o.bytes) (run_output R (search_at kind s t st) budget out) ≡ o.bytes
    wrote_at budget out = rw (outcome-at budget out) at (run-wrote (search_at kind s t st) budget out passes)
