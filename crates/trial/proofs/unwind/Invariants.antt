-- The invariant is `Unwinding`: what is left to unwind comes to what was to be unwound. The measure is the length of
-- the beginning.
use Rattle.trial.proofs.Arrays.{Unwinding}
use Rattle.trial.proofs.unwind.Given as goal

abbrev pub invariant-loop-len : goal.invariant-loop-len
invariant-loop-len l = Unwinding l.n l.initial.prefix l.from l.first l.prefix l.len l.c

abbrev pub decreases-loop-len : goal.decreases-loop-len
decreases-loop-len l = l.len
