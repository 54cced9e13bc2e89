-- What the run over a word table asks and promises.
-- Nothing to believe: the contract of `run_checked` is the definition of a run.
use Rattle.std.specs.Prelude.{ℕ, suc, ◌≡◌, true, ◌&&◌, ◌||◌, cond, List, ◌++◌, length, drop, eqb, Option, Some, None}
use Rattle.enumeration.specs.declared.Stop.{Stop}
use Rattle.enumeration.specs.declared.Stop.TheVariants.{Done, Limit, Spent}
use Rattle.enumeration.specs.Words.{Family}
use Rattle.enumeration.specs.Run.{Outcome, limit, run}
use Rattle.enumeration.specs.Trials.{Valid}
use Rattle.enumeration.specs.RunFacts.{Bounded}
use Rattle.search.specs.declared.Search.{Search}
use Rattle.search.specs.declared.Ran.{Ran}
use Rattle.search.specs.Place.{state_of, kind_kept}
use Rattle.search.specs.Entries.{ran}
use Rattle.openness.specs.declared.Wanted.{Wanted}
use Rattle.openness.specs.declared.Found.{Found}
use Rattle.openness.specs.Plan.{family_wanted, SearchTable, Ahead, FirstTells}
use Rattle.trial.specs.declared.Spot.{Spot}
use Rattle.trial.specs.Parts.{HeldWithRoom}

-- a search that a run over a word table starts from
pub record Ready (w : Wanted) (q : Search) : Type 0 where
  pub words : SearchTable w.n w.table.now w.kind w.t
  pub kinds : kind_kept w.n w.kind w.s w.t ≡ true
  pub standing : HeldWithRoom q.prefix q.len
  pub valid : Valid (family_wanted w) (state_of q)
  pub bounded : Bounded (state_of q)

-- why a run makes no trial at a place, if it does not: tried in this order
abbrev pub stop_before : Spot → ℕ → ℕ → ℕ → Option Stop
stop_before at n made budget =
    cond (eqb at.len 0 && eqb at.next (suc n)) (Some Done)
    (cond (eqb at.trials limit || eqb at.extensions limit || eqb at.listed limit) (Some Limit)
    (cond (eqb made budget) (Some Spent) None))

-- what is found at the beginning p: the plan tells of the next atom c and of those up to the first that opens
pub record Finds (F : Family) (p : List ℕ) (c : ℕ) (found : Found) : Type 0 where
  pub ahead : Ahead F p c found.plan
  pub tells : FirstTells F found.first

-- its outcome by the definition
abbrev pub outcome_by : Wanted → Search → ℕ → List ℕ → Outcome
outcome_by w q budget out = run (family_wanted w) budget (length out) (state_of q)

-- an output after an outcome: its bytes, and then what was there
abbrev pub run_onto : Outcome → List ℕ → List ℕ
run_onto o out = o.bytes ++ drop (length o.bytes) out

-- the outcome as a run's result r and the output after it
pub record Yields (q : Search) (o : Outcome) (before : List ℕ) (r : Ran) (after : List ℕ) : Type 0 where
  pub result : r ≡ ran q o
  pub output : after ≡ run_onto o before
