-- A number written right-justified into the whole slice.
-- Invariant: the columns still to write, followed by those written, are the field's text.
use Rattle.std.proofs.Common.{arith, length-set}
use Rattle.fields.proofs.Turns.{text-none, written_last, written-more, written_all}
use Rattle.fields.proofs.write_number.Goals as goal

pub returns-in_default : goal.returns-in_default
returns-in_default c = text-none _ _ c.in_default.ensures

pub loop-i-init : goal.loop-i-init
loop-i-init c =
    let e = c.in-Some.ensures in
    written_last _ _ _ (omega arith)

pub loop-i-preserved : goal.loop-i-preserved
loop-i-preserved c = written-more c.loop-i.invariant c.loop-i-test.true c.column_byte.ensures

pub returns : goal.returns
returns c = simp length-set at (written_all c.loop-i.invariant c.loop-i-test.false)
