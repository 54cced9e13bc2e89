-- `mark_reader::bonded` meets its contract: the tests are the definition's.
use native.Mathlib.Omega.{arith}
use Rattle.std.proofs.lemmas.Bool.Decides.{nat_tests}
use Rattle.molecule.specs.Record.{bonded}
use Rattle.mark_reader.proofs.bonded.Goals as goal

pub returns-then-is_atom-2 : goal.returns-then-is_atom-2
unfolding bonded
returns-then-is_atom-2 c = grind (arith, nat_tests)

pub returns-else-is_atom-2 : goal.returns-else-is_atom-2
unfolding bonded
returns-else-is_atom-2 c = grind (arith, nat_tests)
