-- `listing::output` meets its contract by definition.
use Rattle.std.proofs.Common.{refl}
use Rattle.listing.specs.Turns.{output}
use Rattle.listing.proofs.output.Goals as goal

pub returns : goal.returns
unfolding output
returns c = refl
