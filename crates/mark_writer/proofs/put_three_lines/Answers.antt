-- `mark_writer::put_three_lines` meets its contract: six texts, each put where the one before it ends.
-- Invariant: the atoms widened are the first ones of the beginning's array.
use native.Mathlib.Omega.{arith}
use Rattle.search.specs.Place.{beginning}
use Rattle.mark_writer.proofs.MarkSplices.{widened-more, widened-all, lines-put}
use Rattle.mark_writer.proofs.put_three_lines.Goals as goal

pub returns : goal.returns
unfolding beginning
returns c =
    lines-put c.requires _ c.put_fields.ensures c.put_feed.ensures c.put_fields-2.ensures
    c.put_feed-2.ensures (rw (widened-all c.loop-i.invariant c.loop-i-test.false) at c.put_fields-3.ensures)
    c.put_feed-3.ensures
