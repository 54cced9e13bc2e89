-- `start::start_paths` meets its contract.
-- A fresh path search is a start of any kind, of that kind.
use mathlib.Core.Path.{◌∙◌}
use Rattle.search.proofs.Starts.{is-paths}
use Rattle.start.proofs.start_paths.Goals as goal

pub returns : goal.returns
returns c = c.start_search.ensures ∙ is-paths _ _ _
