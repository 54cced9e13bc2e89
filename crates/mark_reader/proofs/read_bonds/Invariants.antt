-- `mark_reader::read_bonds` meets its contract.
-- The invariant is `Reading`: the lines still to be read decide as all of them do.
use Rattle.mark_reader.proofs.BondReading.{Reading}
use Rattle.mark_reader.proofs.read_bonds.Given as goal

abbrev pub invariant-loop-i : goal.invariant-loop-i
invariant-loop-i l = Reading l.n l.rows l.bytes l.from l.count l.above l.own l.i
