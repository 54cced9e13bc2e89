-- What holds of the outcome of a run (document 01, "The search, trial by trial").
use Rattle.std.specs.Prelude.{ℕ, ◌+◌, ◌≤◌, ◌<◌, ◌≡◌, true, false, length}
use Rattle.enumeration.specs.declared.Stop.{Stop}
use Rattle.enumeration.specs.declared.Stop.TheVariants.{Done, Limit, Spent, Full}
use Rattle.enumeration.specs.Words.{Family}
use Rattle.enumeration.specs.Machine.{State, is_done}
use Rattle.enumeration.specs.Run.{Outcome, limit, at_limit, lists}
use Rattle.enumeration.specs.Trials.{steps, emitted, records}

-- Counts at most the limit
pub record Bounded (st : State) : Type 0 where
  pub trials_most : st.trials ≤ limit
  pub extensions_most : st.extensions ≤ limit
  pub listed_most : st.listed ≤ limit

-- Why a run stopped: done; a count at the limit; its budget made; or the next trial
-- would list a record longer than the room left
abbrev pub Why : Family → ℕ → ℕ → Outcome → Stop → Type 0
Why F budget room o Done =
    is_done F.atoms o.state ≡ true
Why F budget room o Limit =
    (is_done F.atoms o.state ≡ false) × (at_limit o.state ≡ true)
Why F budget room o Spent =
    (is_done F.atoms o.state ≡ false) × (at_limit o.state ≡ false) ×
    (o.made ≡ budget)
Why F budget room o Full =
    (is_done F.atoms o.state ≡ false) × (at_limit o.state ≡ false) ×
    (o.made < budget) ×
    (room < length o.bytes + length (lists F o.state))

pub record RunFacts (F : Family) (budget room : ℕ) (st : State) (o : Outcome) : Type 0 where
  -- it is the search after the trials made, and it was not done before any of them
  pub stepped : o.state ≡ steps F o.made st
  pub busy : (j : ℕ) → j < o.made → is_done F.atoms (steps F j st) ≡ false
  -- its bytes are the records of what they list
  pub wrote : o.bytes ≡ records (emitted F o.made st)
  pub in_budget : o.made ≤ budget
  pub in_room : length o.bytes ≤ room
  -- the counts rise by the trials made and by the records written
  pub counted : o.state.trials ≡ st.trials + o.made
  pub listing : o.state.listed ≡ st.listed + length (emitted F o.made st)
  pub why : Why F budget room o o.stop
