-- `bond_writer::put_cell` meets its contract: a bit that is clear, or not above the diagonal, is no bond.
use Rattle.bond_writer.proofs.CellBonds.{clear-bond, low-bond, one-bond}
use Rattle.bond_writer.proofs.BondSplices.{put-none, one-fits, put_one}
use Rattle.bond_writer.proofs.put_cell.Goals as goal

pub returns-then-rows-at-ne1 : goal.returns-then-rows-at-ne1
returns-then-rows-at-ne1 c = put-none (clear-bond _ _ _ c.requires.small c.if-rows-at-ne1.true)

pub returns-then-column-row : goal.returns-then-column-row
returns-then-column-row c = put-none (low-bond _ _ _ c.requires.small c.if-column-row.true)

pub put_bond-requires : goal.put_bond-requires
put_bond-requires c =
    one-fits _ _ (one-bond _ _ _ c.requires.small c.if-rows-at-ne1.false c.if-column-row.false) c.requires.room

pub returns : goal.returns
returns c =
    put_one (one-bond _ _ _ c.requires.small c.if-rows-at-ne1.false c.if-column-row.false) c.put_bond.ensures
