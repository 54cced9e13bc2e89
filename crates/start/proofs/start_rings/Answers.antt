-- `start::start_rings` meets its contract.
-- A fresh ring search is a start of any kind, of that kind.
use mathlib.Core.Path.{◌∙◌}
use Rattle.search.proofs.Starts.{is-rings}
use Rattle.start.proofs.start_rings.Goals as goal

pub returns : goal.returns
returns c = c.start_search.ensures ∙ is-rings _
