-- The trials of the fast loop: many turns of a run at once.
-- None of them stops the run, so they are a part of it; a plan that is kept tells of the same beginning.
use Prim.Native.Nat.{ℕ, ◌+◌, ◌-◌, ◌≤◌}
use native.Mathlib.Omega.{arith}
use mathlib.Core.Path.{◌≡◌}
use mathlib.Core.List.{List}
use lib.ListN.{length, take}
use Rattle.std.specs.Prelude.{Option}
use Rattle.std.specs.Option.{ForSome}
use Rattle.enumeration.proofs.Makes.{makes-valid, makes-bounded}
use Rattle.search.specs.declared.Search.{Search}
use Rattle.openness.specs.declared.Plan.{Plan}
use Rattle.openness.specs.declared.FirstPlan.{FirstPlan}
use Rattle.openness.specs.declared.Wanted.{Wanted}
use Rattle.openness.specs.Plan.{family_wanted, FirstTells, Begins}
use Rattle.openness.proofs.Arrays.{taken-length}
use Rattle.trial.specs.declared.Spot.{Spot}
use Rattle.dive.specs.declared.Dived.{Dived}
use Rattle.dive.specs.declared.Level.{Level}
use Rattle.dive.specs.Levels.{LevelRoom}
use Rattle.dive.specs.Parts.{Entering, Descended}
use Rattle.runner.specs.Parts.{Ready}
use Rattle.runner.proofs.Turns.{going-makes}
use Rattle.runner.proofs.Trials.{Task, task_of, Turning, opened, used-within, length-kept}

-- ---- what a plan and the fast loop ask

module _ {w : Wanted} {q : Search} (ready : Ready w q) {budget : ℕ} {out₀ out prefix : List ℕ} {at : Spot}
    {plan : Option Plan} {used made : ℕ} (t : Turning (task_of w q budget out₀) out prefix at plan used made) where
  pub begun : Begins w (take at.len prefix)
  begun = record {
    words = ready.words;
    kinds = ready.kinds;
    short =
        let size = taken-length prefix at.len t.standing.within.size t.standing.within.most in
        rw size t.standing.short;
    is_opened = opened t;
  }

  pub entering :
      {first : Option FirstPlan} {levels : List Level} → FirstTells (family_wanted w) first → LevelRoom w.n levels →
      Entering w (record { at = at; used = used }) first prefix levels out
  entering tells size = record {
    tells = tells;
    sized = size;
    begun = begun;
    standing = t.standing;
    trials_most = t.bounded.trials_most;
    extensions_most = t.bounded.extensions_most;
    listed_most = t.bounded.listed_most;
    in_room = used-within t;
  }

-- ---- what it does

module _ {T : Task} {out prefix : List ℕ} {at : Spot} {plan : Option Plan} {used made : ℕ}
    (t : Turning T out prefix at plan used made) {out' prefix' : List ℕ} {r : Dived}
    (d : Descended T.family prefix (record { at = at; used = used }) (T.budget - made) out prefix' out' r) where
  -- the trials made with those of the fast loop
  abbrev pub further : ℕ
  further = made + (r.at.trials - at.trials)

  pub further-paid : further ≤ T.budget
  further-paid = omega (arith, d.affordable, t.going.in_budget)

  -- where a plan is kept, the next atom is not 1
  pub dives : ForSome plan (λ found. at.next ≡ 1 → ⊥) → Turning T out' prefix' r.at plan r.used further
  dives raised = record {
    few = t.few;
    standing = d.held;
    valid = makes-valid T.lawful t.valid d.makes;
    bounded = makes-bounded t.bounded d.makes;
    told = λ found e. let (word, next) = d.same (raised found e) in rw (word, next) (t.told found e);
    going =
        let room : used + length d.bytes ≤ length T.output = omega (arith, d.listing.fits, length-kept t) in
        rw d.listing.used_is (going-makes t.going d.makes further-paid room d.listing.output);
  }
