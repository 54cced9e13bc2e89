-- Whether a line is exactly M  END.
-- Invariant: none of the lines passed is.
use Prim.Native.Nat.{◌-◌, ◌≤◌}
use mathlib.Core.Path.{◌≡◌}
use lib.ListN.{length}
use Rattle.molfile.specs.Molfile.{has_end}
use Rattle.molfile.specs.Parts.{lines_from}
use Rattle.molfile.proofs.has_end.Given as goal

abbrev pub invariant-loop-line : goal.invariant-loop-line
invariant-loop-line l = (l.at ≤ length l.s) × (has_end (lines_from l.s l.at) ≡ has_end (lines_from l.s l.from))

abbrev pub decreases-loop-line : goal.decreases-loop-line
decreases-loop-line l = length l.s - l.at
