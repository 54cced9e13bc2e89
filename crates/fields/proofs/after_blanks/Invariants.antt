-- A whole slice as blanks and digits, by `after_blanks`.
-- Invariant: the blanks passed change nothing; the first digit hands over to `more_digits`.
use Rattle.std.proofs.Common.{◌≡◌, drop}
use Rattle.fields.specs.Field.{after_blanks}
use Rattle.fields.proofs.after_blanks.Given as goal

abbrev pub invariant-loop-i : goal.invariant-loop-i
invariant-loop-i l = after_blanks l.zeros (drop l.i l.s) ≡ after_blanks l.zeros l.s
