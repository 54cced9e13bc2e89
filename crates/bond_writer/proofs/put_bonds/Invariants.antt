-- `bond_writer::put_bonds` meets its contract.
-- The invariant is `Lined`: the bonds of the first rows are put over the list, and `place` is where they end.
use Prim.Native.Nat.{◌*◌}
use Rattle.bond_writer.proofs.BondSplices.{Lined}
use Rattle.bond_writer.proofs.put_bonds.Given as goal

abbrev pub invariant-loop-row : goal.invariant-loop-row
invariant-loop-row l = Lined l.rows l.initial.out l.at 0 (128 * l.n) l.out (128 * l.row) l.place
