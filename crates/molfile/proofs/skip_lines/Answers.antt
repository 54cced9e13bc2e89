-- The first lines are skipped.
-- A line is missing, or it is one more.
use Rattle.molfile.proofs.Feeds.{passed-more, skipped-none}
use Rattle.molfile.proofs.skip_lines.Goals as goal

pub returns-in_err-at : goal.returns-in_err-at
returns-in_err-at c = rw c.from_residual.ensures (skipped-none c.loop.invariant c.loop-test.true c.in_err-at.ensures)

pub loop-preserved : goal.loop-preserved
loop-preserved c = passed-more c.loop.invariant c.in_ok-at.ensures
