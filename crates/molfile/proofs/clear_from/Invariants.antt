-- Blocks of 16 bytes without a line feed.
-- Invariant: none stands between the place and the block that is looked at.
use Prim.Native.Nat.{◌-◌}
use lib.ListN.{length}
use Rattle.molfile.specs.Parts.{NoFeed}
use Rattle.molfile.proofs.clear_from.Given as goal

abbrev pub invariant-loop-i : goal.invariant-loop-i
invariant-loop-i l = NoFeed l.s l.from l.i

abbrev pub decreases-loop-i : goal.decreases-loop-i
decreases-loop-i l = length l.s - l.i
