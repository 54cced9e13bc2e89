-- `listing::piece` meets its contract by definition.
use Rattle.std.proofs.Common.{refl}
use Rattle.listing.specs.Printing.{piece}
use Rattle.listing.proofs.piece.Goals as goal

pub returns : goal.returns
unfolding piece
returns c = refl
