-- `bond_writer::put_row` meets its contract.
-- The invariant is `Lined`: the bonds of the first i bytes of the row are put over the list, and end at `end`.
use native.Mathlib.Omega.{arith}
use Rattle.bond_writer.proofs.BondSplices.{lined-fits, lined-more, row-start, row_put}
use Rattle.bond_writer.proofs.put_row.Goals as goal

pub put_byte-end-requires : goal.put_byte-end-requires
put_byte-end-requires c =
    record { inside = omega arith; room = lined-fits c.loop-i.invariant 8 (omega arith) (omega arith) }

pub loop-i-preserved : goal.loop-i-preserved
loop-i-preserved c =
    lined-more c.loop-i.invariant 8 (omega arith) (omega arith) (omega arith) c.put_byte-end.ensures
    c.put_byte-end.auto.out

pub returns : goal.returns
returns c =
    row_put c.requires c.loop-i.i (omega arith) c.loop-i.invariant

pub loop-i-init : goal.loop-i-init
loop-i-init c = row-start c.requires
