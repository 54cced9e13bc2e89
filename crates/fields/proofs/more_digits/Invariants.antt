-- The digits that follow: the loop reads on exactly as `digits` does.
-- Invariant: what is left to read, with the value so far, is what was to be read at the start.
use Rattle.std.proofs.Common.{◌≡◌, drop}
use Rattle.fields.specs.Field.{digits}
use Rattle.fields.proofs.more_digits.Given as goal

abbrev pub invariant-loop-i : goal.invariant-loop-i
invariant-loop-i l = digits l.zeros l.value (drop l.i l.s) ≡ digits l.zeros l.first (drop l.from l.s)
