-- `mark_reader::atoms_of` meets its contract.
-- The invariant is `Filled`: the array holds the first i atoms, and zeros past them.
use Rattle.mark_reader.proofs.Stored.{Filled}
use Rattle.mark_reader.proofs.atoms_of.Given as goal

abbrev pub invariant-loop-i : goal.invariant-loop-i
invariant-loop-i l = Filled l.bytes l.k l.prefix l.i
