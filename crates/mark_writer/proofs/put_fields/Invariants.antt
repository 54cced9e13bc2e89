-- `mark_writer::put_fields` meets its contract.
-- The invariant is `Put`: the first i numbers are put over the list, and `place` is where they end.
use Rattle.bond_writer.proofs.Splices.{Put}
use Rattle.mark_writer.proofs.put_fields.Given as goal

abbrev pub invariant-loop-v : goal.invariant-loop-v
invariant-loop-v l = Put l.initial.out l.values l.at l.columns l.out l.v-index l.place
