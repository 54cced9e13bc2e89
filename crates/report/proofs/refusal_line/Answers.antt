-- `report::refusal_line` meets its contract: the word, a field and a line feed, each stored where the one before it
-- ends.
use Rattle.report.proofs.Texts.{prints, prints-none, refusal-put}
use Rattle.report.proofs.refusal_line.Goals as goal

pub returns-then-text-lt12 : goal.returns-then-text-lt12
returns-then-text-lt12 c = prints-none 12 _ _ c.if-text-lt12.true

pub returns : goal.returns
returns c =
    prints c.if-text-lt12.false
    (refusal-put c.args.text.now c.args.number c.copy_from_slice.ensures.after c.if-text-lt12.false
    (rw c.from.ensures at c.write_number.ensures))
