-- The first line feed from a place on.
-- Invariant: none stands between the place and the byte that is looked at.
use Rattle.molfile.specs.Parts.{NoFeed}
use Rattle.molfile.proofs.feed_from.Given as goal

abbrev pub invariant-loop-i : goal.invariant-loop-i
invariant-loop-i l = NoFeed l.s l.from l.i
