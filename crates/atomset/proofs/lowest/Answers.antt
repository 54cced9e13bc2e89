-- `atomset::lowest` meets its contract: the lowest bit of the first word that is not 0.
-- By `lowest-first` and `lowest-second`.
use Rattle.atomset.proofs.Members.{lowest-first, lowest-second, second_word}
use Rattle.atomset.proofs.lowest.Goals as goal

pub returns-then-x-ne0 : goal.returns-then-x-ne0
returns-then-x-ne0 c = lowest-first _ _ c.lowest_bit.ensures

pub lowest_bit-requires-2 : goal.lowest_bit-requires-2
lowest_bit-requires-2 c = second_word c.args.x c.requires c.if-x-ne0.false

pub returns : goal.returns
returns c = lowest-second _ _ c.if-x-ne0.false c.lowest_bit-2.ensures
