-- `report::ring_lines` meets its contract.
-- The invariant is `Printing`; the measure is the bytes of the records still ahead.
use Rattle.std.proofs.Common.{length}
use Rattle.report.proofs.Records.{Printing}
use Rattle.report.proofs.ring_lines.Given as goal

abbrev pub invariant-loop-size : goal.invariant-loop-size
invariant-loop-size l = Printing l.records l.initial.text l.text l.used l.left

abbrev pub decreases-loop-size : goal.decreases-loop-size
decreases-loop-size l = length l.left
