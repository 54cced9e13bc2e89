-- Every line of a sheet, and the numbers of the first 1,025.
-- Invariant: the lines passed are right, and their numbers are stored.
use Rattle.sheet.proofs.Lines.{Decoding}
use Rattle.sheet.proofs.decode.Given as goal

abbrev pub invariant-loop-i : goal.invariant-loop-i
invariant-loop-i l = Decoding l.s l.initial.values l.values l.i
