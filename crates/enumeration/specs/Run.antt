-- A run (document 01, "The search, trial by trial"): trials up to a budget, records into an output of `room` bytes.
use Rattle.std.specs.Prelude.{ℕ, zero, suc, ◌-◌, Bool, true, false, ◌||◌, cond, List, [], ◌∷◌, ◌++◌, length, ltb, eqb}
use Rattle.enumeration.specs.declared.Stop.{Stop}
use Rattle.enumeration.specs.declared.Stop.TheVariants.{Done, Limit, Spent, Full}
pub use Rattle.fields.specs.Field.{limit}
use Rattle.enumeration.specs.Words.{Family}
use Rattle.enumeration.specs.Machine.{State, tried, is_done, trial}

-- The number that the host entry returns for each stop (document 01, "Judge, host entry and `ringlist`")
abbrev pub stop_number : Stop → ℕ
stop_number Done = 101
stop_number Limit = 102
stop_number Spent = 103
stop_number Full = 104

unfoldable pub at_limit : State → Bool
at_limit st = eqb st.trials limit || eqb st.extensions limit || eqb st.listed limit

-- The record of a listed member: its length in one byte, then its atoms, one byte each
unfoldable pub record_of : List ℕ → List ℕ
record_of w = length w ∷ w

-- What the next trial lists: the record of its word if that is a member, nothing otherwise
unfoldable pub record_if : Bool → List ℕ → List ℕ
record_if true w = record_of w
record_if false w = []

unfoldable pub lists : Family → State → List ℕ
lists F st = record_if (F.member (tried st)) (tried st)

-- What a run returns: the search, its stop, the bytes written and the trials made
pub record Outcome : Type 0 where
  pub state : State
  pub stop : Stop
  pub bytes : List ℕ
  pub made : ℕ

abbrev pub stopped : State → Stop → Outcome
stopped st why = record { state = st; stop = why; bytes = []; made = 0 }

-- an outcome with one trial more before it, which wrote `bytes`
abbrev pub after_trial : List ℕ → Outcome → Outcome
after_trial bytes o = record {
  state = o.state;
  stop = o.stop;
  bytes = bytes ++ o.bytes;
  made = suc o.made;
}

-- A run ends at the first of these, tried before every trial in this order: done, limit, spent, full
unfoldable pub run : Family → ℕ → ℕ → State → Outcome
run F zero room st =
    cond (is_done F.atoms st) (stopped st Done)
    (cond (at_limit st) (stopped st Limit) (stopped st Spent))
run F (suc budget) room st =
    let rest = run F budget (room - length (lists F st)) (trial F st) in
    cond (is_done F.atoms st) (stopped st Done)
    (cond (at_limit st) (stopped st Limit)
    (cond (ltb room (length (lists F st))) (stopped st Full) (after_trial (lists F st) rest)))
