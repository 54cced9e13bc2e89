-- `start::start_shortest` meets its contract.
-- A fresh search for shortest paths is a start of any kind, of that kind.
use mathlib.Core.Path.{◌∙◌}
use Rattle.search.proofs.Starts.{is-shortest}
use Rattle.start.proofs.start_shortest.Goals as goal

pub returns : goal.returns
returns c = c.start_search.ensures ∙ is-shortest _ _ _
