-- `bond_writer::put_bonds` meets its contract.
-- The invariant is `Lined`: the bonds of the first rows are put over the list, and `place` is where they end.
use native.Mathlib.Omega.{arith}
use Rattle.bond_writer.proofs.BondSplices.{lined-fits, lined-more, bonds-start, bonds-put}
use Rattle.bond_writer.proofs.put_bonds.Goals as goal

pub put_row-place-requires : goal.put_row-place-requires
put_row-place-requires c =
    record {
      few = c.requires.few;
      one = c.loop-row-test.true;
      sound = c.requires.sound;
      room = lined-fits c.loop-row.invariant 128 (omega arith) (omega arith);
    }

pub loop-row-preserved : goal.loop-row-preserved
loop-row-preserved c =
    lined-more c.loop-row.invariant 128 (omega arith) (omega arith) (omega arith) c.put_row-place.ensures
    c.put_row-place.auto.out

pub returns : goal.returns
returns c =
    bonds-put c.requires c.loop-row.row c.loop-row-test.false c.loop-row.invariant

pub loop-row-init : goal.loop-row-init
loop-row-init c = bonds-start c.requires
