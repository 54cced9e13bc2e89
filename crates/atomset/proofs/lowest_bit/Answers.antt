-- `atomset::lowest_bit` meets its contract: the count of trailing zeros is the place of the lowest bit.
-- By `lowest-in`.
use Rattle.atomset.proofs.Members.{lowest-in}
use Rattle.atomset.proofs.lowest_bit.Goals as goal

pub returns : goal.returns
returns c = lowest-in c.args.word c.requires c.ranges.word.fits
