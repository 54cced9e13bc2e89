-- `trial::unwind` meets its contract. The invariant is `Unwinding`: what is left to unwind comes to what was to be
-- unwound. The measure is the length of the beginning.
use Rattle.trial.proofs.Arrays.{unwinding-pop, unwinding-left, unwinding-end}
use Rattle.trial.proofs.unwind.Goals as goal

pub returns-then-c-n : goal.returns-then-c-n
returns-then-c-n c =
    unwinding-left c.loop-len.invariant c.loop-len-test.true c.if-c-n.true

pub loop-len-preserved : goal.loop-len-preserved
loop-len-preserved c =
    unwinding-pop c.loop-len.invariant c.loop-len-test.true c.if-c-n.false c.from-c.ensures

pub returns : goal.returns
returns c =
    unwinding-end c.loop-len.invariant c.loop-len-test.false
