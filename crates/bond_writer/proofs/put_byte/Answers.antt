-- `bond_writer::put_byte` meets its contract.
-- The invariant is `Lined`: the bonds of the first k cells are put over the list, and `end` is where they end.
use native.Mathlib.Omega.{arith}
use mathlib.Core.Path.{refl}
use Rattle.bond_writer.proofs.CellBonds.{no_cells, empty-byte}
use Rattle.bond_writer.proofs.BondSplices.{put-none, lined-none, lined-fits, lined-more, lined-all}
use Rattle.bond_writer.proofs.put_byte.Goals as goal

pub returns-then-rows-at-eq0 : goal.returns-then-rows-at-eq0
returns-then-rows-at-eq0 c = put-none (empty-byte _ _ c.if-rows-at-eq0.true)

pub put_cell-end-requires : goal.put_cell-end-requires
put_cell-end-requires c =
    record {
      inside = c.requires.inside;
      small = c.loop-k-test.true;
      room = lined-fits c.loop-k.invariant 1 refl (omega arith);
    }

pub loop-k-preserved : goal.loop-k-preserved
loop-k-preserved c =
    lined-more c.loop-k.invariant 1 refl refl (omega arith) c.put_cell-end.ensures c.put_cell-end.auto.out

pub loop-k-init : goal.loop-k-init
loop-k-init c = lined-none c.requires.room (omega arith) (no_cells _ _)
