-- `report::count_line` meets its contract: three fields and a line feed, each stored where the one before it ends.
use Rattle.report.proofs.Texts.{begins-length, prints, prints-none, counts-put}
use Rattle.report.proofs.count_line.Goals as goal

pub returns-then-text-lt61 : goal.returns-then-text-lt61
returns-then-text-lt61 c = prints-none 61 _ _ c.if-text-lt61.true

pub shape_of-text : goal.shape_of-text
shape_of-text c =
    begins-length
    (counts-put c.args.text.now _ _ _ c.if-text-lt61.false c.write_number.ensures
    c.write_number-2.ensures c.write_number-3.ensures)
    c.if-text-lt61.false

pub returns : goal.returns
returns c =
    prints c.if-text-lt61.false
    (counts-put c.args.text.now _ _ _ c.if-text-lt61.false c.write_number.ensures
    c.write_number-2.ensures c.write_number-3.ensures)
