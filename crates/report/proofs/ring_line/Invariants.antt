-- `report::ring_line` meets its contract.
-- The invariant is `Lining`: the fields of the first i atoms stand at the start, and the rest is as it was.
use Prim.Native.Nat.{◌-◌}
use lib.ListN.{length}
use Rattle.report.proofs.Texts.{Lining}
use Rattle.report.proofs.ring_line.Given as goal

abbrev pub invariant-loop-i : goal.invariant-loop-i
invariant-loop-i l = Lining l.initial.text l.atoms l.text l.i

abbrev pub decreases-loop-i : goal.decreases-loop-i
decreases-loop-i l = length l.atoms - l.i
