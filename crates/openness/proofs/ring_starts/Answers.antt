-- `openness::ring_starts` meets its contract: some ring begins with c exactly when a second atom opens it.
-- By `starts-told`.
use Rattle.openness.proofs.Rings.{starts-told}
use Rattle.openness.proofs.ring_starts.Goals as goal

pub returns : goal.returns
returns c =
    starts-told c.requires c.second_atoms.ensures c.is_empty.ensures
