-- `search::fresh_search` meets its contract: the two values are the same by computation.
-- The empty beginning is held by 128 zeros.
use mathlib.Core.Path.{refl}
use Rattle.enumeration.specs.Machine.{fresh}
use Rattle.search.specs.Place.{held, search_at, fresh_search}
use Rattle.search.proofs.fresh_search.Goals as goal

pub returns : goal.returns
unfolding fresh_search search_at held fresh
returns c = refl
