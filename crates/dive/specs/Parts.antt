-- What the fast loop asks and returns: trials of which none stops the run lead from one place to another and list these
-- records. Nothing to believe: the contract of the run is its definition.
use Rattle.std.specs.Prelude.{Option, ℕ, suc, ◌+◌, ◌-◌, ◌≤◌, ◌≡◌, true, List, ◌++◌, length, get_or, take, drop}
use Rattle.enumeration.specs.Words.{Family}
use Rattle.enumeration.specs.Machine.{State, placed, unwound}
use Rattle.enumeration.specs.Run.{limit}
use Rattle.enumeration.specs.Makes.{Makes}
use Rattle.atomset.specs.Set.{linked_by}
use Rattle.search.specs.Place.{kind_kept}
use Rattle.openness.specs.declared.FirstPlan.{FirstPlan}
use Rattle.openness.specs.declared.Wanted.{Wanted}
use Rattle.openness.specs.Plan.{family_wanted, most_atoms, first_length, FirstTells, SearchTable, Begins}
use Rattle.trial.specs.declared.Spot.{Spot}
use Rattle.trial.specs.Parts.{stack_of, state_at, HeldWithRoom}
use Rattle.dive.specs.declared.Dived.{Dived}
use Rattle.dive.specs.declared.Level.{Level}
use Rattle.dive.specs.Levels.{LevelRoom, Stage}

-- v is the next atom or above it, or one below it; the trials up to it can be counted
pub record Rising (at : Spot) (v : ℕ) : Type 0 where
  pub ahead : at.next ≤ suc v
  pub few : v ≤ 128
  pub countable : at.trials ≤ limit

abbrev pub listed_at : Spot → ℕ → Spot
listed_at at v = record {
  len = at.len;
  next = v + 1;
  trials = at.trials + (v + 1 - at.next);
  extensions = at.extensions;
  listed = at.listed + 1;
}

abbrev pub extended_at : Spot → ℕ → Spot
extended_at at v = record {
  len = at.len + 1;
  next = 1;
  trials = at.trials + (v + 1 - at.next);
  extensions = at.extensions + 1;
  listed = at.listed;
}

abbrev pub dropped_at : Spot → ℕ → ℕ → Spot
dropped_at at n last = record {
  len = at.len - 1;
  next = last + 1;
  trials = at.trials + (n + 1 - at.next);
  extensions = at.extensions;
  listed = at.listed;
}

-- so many trials take no count past the limit, and there are as many left
pub record Room (at : Spot) (left room : ℕ) : Type 0 where
  pub affordable : room ≤ left
  pub trials_most : at.trials + room ≤ limit
  pub extensions_most : at.extensions + room ≤ limit
  pub listed_most : at.listed + room ≤ limit

-- the trials up to `most` take no count past the limit
pub record Bounds (at : Spot) (most : ℕ) : Type 0 where
  pub trials_most : at.trials ≤ most
  pub most_limit : most ≤ limit
  pub extensions_most : at.extensions + (most - at.trials) ≤ limit
  pub listed_most : at.listed + (most - at.trials) ≤ limit

-- the state of a search at a place that is not yet unwound
abbrev pub state_before : ℕ → List ℕ → Spot → State
state_before n prefix at =
    placed (unwound n (stack_of prefix at.len) at.next) at.trials at.extensions at.listed

-- an open beginning, which has got its last atom x and is to be planned
pub record Added (w : Wanted) (p : List ℕ) (levels : List Level) (x : ℕ) : Type 0 where
  pub begun : Begins w p
  pub long : first_length w.kind ≤ length p
  pub last_is : x ≡ get_or p (length p - 1) 0
  pub low : 1 ≤ x
  pub high : x ≤ 128
  pub sized : LevelRoom (suc (length p)) levels

-- an open beginning from which the fast loop may start; where two sets do not steer it, the first plan may tell of it
pub record Starting (w : Wanted) (p : List ℕ) (first : Option FirstPlan) (levels : List Level) : Type 0 where
  pub begun : Begins w p
  pub tells : FirstTells (family_wanted w) first
  pub sized : LevelRoom w.n levels

-- the first beginning of the fast loop and what is kept for it
abbrev pub FirstStage : Wanted → List ℕ → List Level → ℕ → Type 0
FirstStage w prefix levels len =
    Stage (family_wanted w) (linked_by w.table.now) (most_atoms w.kind w.s) (first_length w.kind) prefix levels len 1

-- the beginning has an atom, and is planned
pub record StartPlanned (w : Wanted) (p : List ℕ) (levels : List Level) : Type 0 where
  pub some : 1 ≤ length p
  pub stage : FirstStage w p levels (length p)

-- what the fast loop starts from: an open beginning, at most one atom shorter than those that two sets steer
pub record Descent (w : Wanted) (most : ℕ) (from : Dived) (prefix : List ℕ) (levels : List Level) (out : List ℕ)
    : Type 0 where
  pub words : SearchTable w.n w.table.now w.kind w.t
  pub kinds : kind_kept w.n w.kind w.s w.t ≡ true
  pub sized : LevelRoom w.n levels
  pub standing : HeldWithRoom prefix from.at.len
  pub some : 1 ≤ from.at.len
  pub near : first_length w.kind ≤ suc from.at.len
  pub first : from.at.next ≡ 1
  pub stage : FirstStage w prefix levels from.at.len
  pub bounds : Bounds from.at most
  pub in_room : from.used ≤ length out

-- the bytes of the records that were listed, after those that were there, and the bytes used
pub record Listed (before : List ℕ) (start : ℕ) (bytes after : List ℕ) (used : ℕ) : Type 0 where
  pub used_is : used ≡ start + length bytes
  pub fits : start + length bytes ≤ length before
  pub output : after ≡ take start before ++ (bytes ++ drop (length bytes) (drop start before))

-- where the fast loop has left the search: so many trials lead there
pub record Left (F : Family) (n most : ℕ) (prefix₀ : List ℕ) (from : Dived) (out₀ prefix out : List ℕ) (r : Dived)
    : Type 0 where
  pub bytes : List ℕ
  pub held : HeldWithRoom prefix r.at.len
  pub low : 1 ≤ r.at.next
  pub high : r.at.next ≤ suc n
  pub more : from.at.trials ≤ r.at.trials
  pub within : r.at.trials ≤ most
  pub makes :
      Makes F (state_before n prefix r.at) (state_before n prefix₀ from.at) (r.at.trials - from.at.trials) bytes
  pub listing : Listed out₀ from.used bytes out r.used

-- a place of a run: an open beginning in its array, counts at most the limit, and a first plan
pub record Entering (w : Wanted) (from : Dived) (first : Option FirstPlan) (prefix : List ℕ) (levels : List Level)
    (out : List ℕ) : Type 0
  where
    pub tells : FirstTells (family_wanted w) first
    pub sized : LevelRoom w.n levels
    pub begun : Begins w (take from.at.len prefix)
    pub standing : HeldWithRoom prefix from.at.len
    pub trials_most : from.at.trials ≤ limit
    pub extensions_most : from.at.extensions ≤ limit
    pub listed_most : from.at.listed ≤ limit
    pub in_room : from.used ≤ length out

-- what it does: at most `left` trials, none of which stops the run, lead to the place, and their records are written
pub record Descended (F : Family) (prefix₀ : List ℕ) (from : Dived) (left : ℕ) (out₀ prefix out : List ℕ) (r : Dived)
    : Type 0 where
  pub bytes : List ℕ
  pub held : HeldWithRoom prefix r.at.len
  pub more : from.at.trials ≤ r.at.trials
  pub affordable : r.at.trials - from.at.trials ≤ left
  pub makes : Makes F (state_at prefix r.at) (state_at prefix₀ from.at) (r.at.trials - from.at.trials) bytes
  pub listing : Listed out₀ from.used bytes out r.used
  -- trials are made only where the next atom is 1: elsewhere the beginning and the next atom are as they were
  pub same :
      (from.at.next ≡ 1 → ⊥) → (take r.at.len prefix ≡ take from.at.len prefix₀) × (r.at.next ≡ from.at.next)
