-- `dive::below` meets its contract: the fast loop makes its trials, and the place where it leaves is unwound.
use Rattle.dive.proofs.Entries.{descent-atoms, left-unwound}
use Rattle.dive.proofs.below.Goals as goal

pub returns : goal.returns
returns c =
    left-unwound (descent-atoms c.requires) c.requires.first c.dive-used.ensures c.unwind-place.ensures
