-- `bond_writer::put_byte` meets its contract.
-- The invariant is `Lined`: the bonds of the first k cells are put over the list, and `end` is where they end.
use Prim.Native.Nat.{◌*◌}
use Rattle.bond_writer.proofs.BondSplices.{Lined}
use Rattle.bond_writer.proofs.put_byte.Given as goal

abbrev pub invariant-loop-k : goal.invariant-loop-k
invariant-loop-k l = Lined l.rows l.initial.out l.place (8 * l.at) 8 l.out l.k l.end
