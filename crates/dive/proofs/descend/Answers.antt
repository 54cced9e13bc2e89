-- `dive::descend` meets its contract: the trials below the beginning where it enters, and no trial where it does not.
use Rattle.openness.specs.Plan.{family_wanted}
use Rattle.dive.proofs.Entries.{none_made}
use Rattle.dive.proofs.descend.Goals as goal

pub returns-then-left-lt256 : goal.returns-then-left-lt256
returns-then-left-lt256 c = none_made (family_wanted c.args.wanted) c.args.left c.requires
