-- `openness::first_ahead` meets its contract. The invariant: no atom from c on and below a begins a ring.
use Rattle.openness.proofs.Rings.{NoneBefore}
use Rattle.openness.proofs.first_ahead.Given as goal

abbrev pub invariant-loop-a : goal.invariant-loop-a
invariant-loop-a l = NoneBefore l.n l.table l.most l.c l.a
