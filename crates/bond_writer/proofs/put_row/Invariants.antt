-- `bond_writer::put_row` meets its contract.
-- The invariant is `Lined`: the bonds of the first i bytes of the row are put over the list, and end at `end`.
use Prim.Native.Nat.{◌*◌}
use Rattle.bond_writer.proofs.BondSplices.{Lined}
use Rattle.bond_writer.proofs.put_row.Given as goal

abbrev pub invariant-loop-i : goal.invariant-loop-i
invariant-loop-i l = Lined l.rows l.initial.out l.place (128 * l.row) 128 l.out (8 * l.i) l.end
