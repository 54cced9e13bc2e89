-- The atom lines.
-- A line is missing, or it is one more.
use native.Mathlib.Omega.{arith}
use Rattle.molfile.proofs.Loops.{keeping-not, atoms-more}
use Rattle.molfile.proofs.atom_lines.Goals as goal

pub returns-in_err-line : goal.returns-in_err-line
returns-in_err-line c =
    rw c.from_residual.ensures (keeping-not c.loop-i.invariant.keeping c.loop-i-test.true c.in_err-line.ensures)

pub loop-i-preserved : goal.loop-i-preserved
loop-i-preserved c = atoms-more c.loop-i.invariant c.in_ok-line.ensures (omega arith) c.limit_of.ensures
