-- Whether none of 16 bytes is a line feed.
-- Invariant: the flag tells it of the bytes passed.
use mathlib.Core.Path.{◌≡◌}
use Rattle.graph.specs.Every.{all_below}
use Rattle.molfile.specs.Parts.{no_feed_at}
use Rattle.molfile.proofs.block_clear.Given as goal

abbrev pub invariant-loop-j : goal.invariant-loop-j
invariant-loop-j l = l.clear ≡ all_below l.j (no_feed_at l.s l.at)
