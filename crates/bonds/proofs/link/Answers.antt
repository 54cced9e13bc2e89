-- One bit of the rows set.
-- The byte or-ed with the bit is the definition's.
use Rattle.bonds.proofs.Cells.{cell_set}
use Rattle.bonds.proofs.link.Goals as goal

pub returns : goal.returns
returns c = cell_set _ _ _
