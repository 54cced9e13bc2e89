-- `mark_writer::put_three_lines` meets its contract: six texts, each put where the one before it ends.
-- Invariant: the atoms widened are the first ones of the beginning's array.
use Rattle.mark_writer.proofs.MarkSplices.{Widened}
use Rattle.mark_writer.proofs.put_three_lines.Given as goal

abbrev pub invariant-loop-i : goal.invariant-loop-i
invariant-loop-i l = Widened l.q.prefix l.q.len l.atoms l.i
