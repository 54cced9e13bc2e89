-- The sheet of a record, written where it has room.
-- Its first line is put at the start, and the bond lines where it ends.
use native.Mathlib.Omega.{arith}
use Rattle.molsheet.proofs.Text.{few-bonds, no_room, bonds-fit, sheet-put}
use Rattle.molsheet.proofs.write_record.Goals as goal

pub overflow_add-size : goal.overflow_add-size
overflow_add-size c = let few = few-bonds c.args.m c.requires in omega arith

pub overflow_mul-size : goal.overflow_mul-size
overflow_mul-size c = let few = few-bonds c.args.m c.requires in omega arith

pub returns-then-out-size : goal.returns-then-out-size
returns-then-out-size c =
    no_room c.args.m c.requires c.args.out.now c.if-out-size.true

pub put_bonds-requires : goal.put_bonds-requires
put_bonds-requires c =
    bonds-fit c.args.m c.requires c.args.out.now c.if-out-size.false c.put_bond.auto.out

pub returns : goal.returns
returns c =
    sheet-put c.args.m c.requires c.args.out.now c.if-out-size.false c.put_bond.ensures
    c.put_bonds.ensures
