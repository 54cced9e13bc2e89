-- `atomset::at_most_one` meets its contract: no atom, or none left when the lowest is taken.
-- By `sole-rest`.
use Rattle.atomset.proofs.Members.{sole-rest}
use Rattle.atomset.proofs.at_most_one.Goals as goal

pub returns-else-is_empty : goal.returns-else-is_empty
returns-else-is_empty c =
    let left = c.without_lowest.ensures in
    sole-rest left.lowest left c.is_empty-else-is_empty.ensures
