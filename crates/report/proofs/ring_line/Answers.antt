-- `report::ring_line` meets its contract.
-- The invariant is `Lining`: the fields of the first i atoms stand at the start, and the rest is as it was.
use native.Mathlib.Omega.{arith}
use lib.ListN.{length-set}
use Rattle.report.proofs.Texts.{prints-none, lining-starts, lining-goes-on, lining_ends}
use Rattle.report.proofs.ring_line.Goals as goal

pub returns-then-text-atoms : goal.returns-then-text-atoms
returns-then-text-atoms c = prints-none _ _ _ (omega arith)

pub returns-then-end-text : goal.returns-then-end-text
returns-then-end-text c = prints-none _ _ _ (omega arith)

pub loop-i-init : goal.loop-i-init
loop-i-init c = lining-starts (omega arith)

pub loop-i-preserved : goal.loop-i-preserved
loop-i-preserved c =
    lining-goes-on c.loop-i.invariant c.loop-i-test.true c.from.ensures
    c.write_number.ensures

pub shape_of-text : goal.shape_of-text
shape_of-text c = rw length-set c.loop-i.invariant.size

pub returns : goal.returns
returns c = lining_ends c.loop-i.invariant c.loop-i-test.false
