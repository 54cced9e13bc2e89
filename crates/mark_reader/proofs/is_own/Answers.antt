-- `mark_reader::is_own` meets its contract: n and m are compared, and past them `own` decides.
use native.Mathlib.Omega.{arith}
use Rattle.std.proofs.lemmas.Bool.Decides.{nat_tests}
use Rattle.mark_reader.specs.Parts.{names_own}
use Rattle.mark_reader.proofs.is_own.Goals as goal

pub returns-then-small_at-m : goal.returns-then-small_at-m
unfolding names_own
returns-then-small_at-m c = grind (arith, nat_tests)

pub returns-else-small_at-m : goal.returns-else-small_at-m
unfolding names_own
returns-else-small_at-m c = grind (arith, nat_tests)
