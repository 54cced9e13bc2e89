-- `mark_reader::atoms_of` meets its contract.
-- The invariant is `Filled`: the array holds the first i atoms, and zeros past them.
use Rattle.mark_reader.proofs.Stored.{filled_none, filled_more, filled-all}
use Rattle.mark_reader.proofs.atoms_of.Goals as goal

pub loop-i-init : goal.loop-i-init
loop-i-init c = filled_none

pub loop-i-preserved : goal.loop-i-preserved
loop-i-preserved c =
    filled_more c.loop-i.invariant c.requires.few c.loop-i-test.true
    c.small_at.ensures c.low_byte.ensures

pub returns : goal.returns
returns c = filled-all c.loop-i.invariant c.loop-i-test.false
