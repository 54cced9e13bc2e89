-- `atomset::row` meets its contract: the two words of the atom in the table.
-- By `row-linked`.
use Rattle.atomset.proofs.Table.{row-linked}
use Rattle.atomset.proofs.row.Goals as goal

pub returns : goal.returns
returns c = row-linked _ _ c.requires.0 c.requires.1
