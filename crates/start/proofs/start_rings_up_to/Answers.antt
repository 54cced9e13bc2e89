-- `start::start_rings_up_to` meets its contract.
-- A fresh search for the rings up to a size is a start of any kind, of that kind.
use mathlib.Core.Path.{◌∙◌}
use Rattle.search.proofs.Starts.{is-size}
use Rattle.start.proofs.start_rings_up_to.Goals as goal

pub returns : goal.returns
returns c = c.start_search.ensures ∙ is-size _ _
