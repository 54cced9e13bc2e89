-- The bond lines.
-- Invariant: the lines passed keep rule 18, and the atoms of their bonds are stored.
use Rattle.molfile.proofs.Loops.{BondsRead}
use Rattle.molfile.proofs.bond_lines.Given as goal

abbrev pub invariant-loop-k : goal.invariant-loop-k
invariant-loop-k l = BondsRead l.s l.from l.initial.bonds l.bonds l.k l.at
