-- The atom lines.
-- Invariant: the lines passed keep rule 18, and the most neighbours of their atoms are stored.
use Rattle.molfile.proofs.Loops.{AtomsRead}
use Rattle.molfile.proofs.atom_lines.Given as goal

abbrev pub invariant-loop-i : goal.invariant-loop-i
invariant-loop-i l = AtomsRead l.s l.from l.initial.limits l.limits l.i l.at
