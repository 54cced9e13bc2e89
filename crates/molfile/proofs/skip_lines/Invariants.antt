-- The first lines are skipped.
-- Invariant: so many lines were passed.
use Rattle.molfile.specs.Parts.{LinesPassed}
use Rattle.molfile.proofs.skip_lines.Given as goal

abbrev pub invariant-loop : goal.invariant-loop
invariant-loop l = LinesPassed l.s 0 l.counter l.at
