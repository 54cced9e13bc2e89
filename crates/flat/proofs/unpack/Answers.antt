-- A search from its numbers and its array.
-- The copy fills the whole array.
use Rattle.flat.specs.Searches.{search_from}
use Rattle.flat.proofs.unpack.Goals as goal

pub returns : goal.returns
unfolding search_from
returns c = rw c.copy_from_slice.ensures.after
