-- The count is what runs from a fresh search of kind 3 have listed when done (document 02, F-14).
-- By demand 3: a search that is done has listed the whole list, and one that stands has its counts within the limit.
use Prim.Native.Nat.{ℕ}
use mathlib.Core.Path.{◌≡◌, refl, sym, ap, ◌∙◌}
use mathlib.Core.Bool.{true}
use mathlib.Core.List.{List, []}
use mathlib.Core.Logic.{inl, inr}
use native.Mathlib.Omega.{arith}
use Rattle.std.specs.Prelude.{Ok}
use Rattle.graph.proofs.Below.{either}
use Rattle.enumeration.specs.Machine.{is_done}
use Rattle.molecule.specs.declared.Molecule.{Molecule}
use Rattle.molecule.specs.Record.{well_formed}
use Rattle.search.specs.declared.Search.{Search}
use Rattle.search.specs.declared.Ran.{Ran}
use Rattle.search.specs.Place.{state_of, ends_kept, restorable}
use Rattle.search.specs.Entries.{run_search}
use Rattle.search.proofs.Readings.{ends-facts, kind-of, restorable-facts}
use Rattle.history.specs.Calls.{Call, Standing, start, standing, History, said_done}
use Rattle.history.specs.Demand.{Demand}
use Rattle.history.proofs.Demand3.{demand3}
use Rattle.counter.specs.Count.{shortest_number, count_shortest}
use Rattle.counter.proofs.Answers.{count-within}

-- a search whose run is not refused keeps rule 12
run-restorable :
    (R : Molecule) (q : Search) {ran : Ran} → well_formed R ≡ true → run_search R q 0 [] ≡ Ok ran →
    restorable R q ≡ true
unfolding run_search
run-restorable R q good e = elim (either (restorable R q)) [
  | inl kept ↦ kept
  | inr wrong ↦ absurd (let f = rw (good, wrong) at e in let z : ◌≡◌ {A = ℕ} 0 1 = cc in omega arith)
]

module _ (R : Molecule) (s t : ℕ) (good : well_formed R ≡ true) (kept : ends_kept R.atoms s t ≡ true)
    (calls : List Call) (h : History R (start 3 s t) calls) where
  -- what stands after the calls
  abbrev now : Standing
  now = standing (start 3 s t) calls

  demand : Demand R 3 s t calls now
  demand =
      demand3 R 3 s t good (kind-of R.atoms 3 s t (inr (inl (refl, ends-facts R.atoms s t kept)))) calls h

  -- a search that is done has listed them all
  all_listed : is_done R.atoms (state_of now.search) ≡ true → now.search.listed ≡ shortest_number R s t
  unfolding shortest_number
  all_listed done = (demand.done_whole done).whole_listed

  -- once the search is done, the entry answers the number that it has listed
  pub count-is-listed :
      is_done R.atoms (state_of now.search) ≡ true → count_shortest R s t ≡ Ok now.search.listed
  count-is-listed done =
      let (ran, goes) = demand.goes_on.run_accepted 0 [] in
      let most = (restorable-facts R now.search (run-restorable R now.search good goes)).listed_most in
      let same = all_listed done in
      count-within R s t good kept (omega arith) ∙ ap Ok (sym same)

  -- and so once a run has said done
  pub said-done-listed : said_done calls ≡ true → count_shortest R s t ≡ Ok now.search.listed
  said-done-listed said = count-is-listed (demand.said-done said)
