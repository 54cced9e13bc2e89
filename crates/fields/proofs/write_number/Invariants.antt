-- A number written right-justified into the whole slice.
-- Invariant: the columns still to write, followed by those written, are the field's text.
use Rattle.std.proofs.Common.{length}
use Rattle.fields.proofs.Turns.{WrittenFrom}
use Rattle.fields.proofs.write_number.Given as goal

abbrev pub invariant-loop-i : goal.invariant-loop-i
invariant-loop-i l = WrittenFrom (length l.initial.out) l.value l.out l.i l.v
