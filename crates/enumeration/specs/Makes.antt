-- Trials of which none stops a run for being done or at the limit: so many of them lead from one search to another
-- and list these records.
use Rattle.std.specs.Prelude.{ℕ, suc, ◌+◌, ◌≡◌, false, List, [], ◌++◌}
use Rattle.enumeration.specs.Words.{Family}
use Rattle.enumeration.specs.Machine.{State, is_done, trial}
use Rattle.enumeration.specs.Run.{Outcome, at_limit, lists}

-- an outcome with `made` trials before it, which wrote `bytes`
abbrev pub onto : List ℕ → ℕ → Outcome → Outcome
onto bytes made o = record { state = o.state; stop = o.stop; bytes = bytes ++ o.bytes; made = made + o.made }

-- from st, k trials lead to `last` and list `bytes`
pub data Makes (F : Family) (last : State) : State → ℕ → List ℕ → Type 0 where
  none : Makes F last last 0 []
  more :
      {st : State} {k : ℕ} {bytes : List ℕ} → is_done F.atoms st ≡ false → at_limit st ≡ false →
      Makes F last (trial F st) k bytes → Makes F last st (suc k) (lists F st ++ bytes)
