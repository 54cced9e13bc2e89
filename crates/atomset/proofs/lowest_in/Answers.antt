-- `atomset::lowest_in` meets its contract: the other set shares an atom with the lowest one alone if it has it.
-- By `lowest-shared`.
use Rattle.atomset.specs.Set.{has}
use Rattle.atomset.proofs.Members.{lowest-shared}
use Rattle.atomset.proofs.lowest_in.Goals as goal

pub returns : goal.returns
returns c v l =
    lowest-shared (has c.args.y) (c.lowest_alone-alone.ensures v l) c.intersection-shared.ensures
    c.is_empty.ensures
