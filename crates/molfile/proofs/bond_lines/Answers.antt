-- The bond lines.
-- A line is missing, or its numbers, or it is one more.
use native.Mathlib.Omega.{arith}
use Rattle.molfile.proofs.Loops.{bonds-short, bonds-no-pair, bonds-more}
use Rattle.molfile.proofs.bond_lines.Goals as goal

pub returns-in_err-line : goal.returns-in_err-line
returns-in_err-line c =
    rw c.from_residual.ensures (bonds-short c.loop-k.invariant c.loop-k-test.true c.in_err-line.ensures)

pub returns-in_err-bonds : goal.returns-in_err-bonds
returns-in_err-bonds c =
    rw c.from_residual-in_err-bonds.ensures
    (bonds-no-pair c.loop-k.invariant c.in_ok-line.ensures c.loop-k-test.true c.in_err-bonds.ensures)

pub loop-k-preserved : goal.loop-k-preserved
loop-k-preserved c = bonds-more c.loop-k.invariant c.in_ok-line.ensures c.in_ok-bonds.ensures (omega arith)
