-- `mark_reader::three_lines_kept` meets its contract: the tests are the definition's.
use native.Mathlib.Omega.{arith}
use Rattle.std.proofs.lemmas.Bool.Decides.{nat_tests}
use Rattle.search.specs.Mark.{three_lines_kept}
use Rattle.mark_reader.proofs.Layouts.{bonds-small}
use Rattle.mark_reader.proofs.three_lines_kept.Goals as goal

pub returns-then-bytes-lt91 : goal.returns-then-bytes-lt91
unfolding three_lines_kept
returns-then-bytes-lt91 c = grind (arith, nat_tests)

pub overflow_mul-per_bond : goal.overflow_mul-per_bond
overflow_mul-per_bond c = omega (arith, bonds-small _ c.args.bytes.now c.requires c.small_at.ensures)

pub overflow_add-k-then-k-le-LONGEST : goal.overflow_add-k-then-k-le-LONGEST
overflow_add-k-then-k-le-LONGEST c = omega (arith, bonds-small _ c.args.bytes.now c.requires c.small_at.ensures)

pub returns-then-fields_kept-3 : goal.returns-then-fields_kept-3
unfolding three_lines_kept
returns-then-fields_kept-3 c = grind (arith, nat_tests)

pub returns-else-fields_kept-3 : goal.returns-else-fields_kept-3
unfolding three_lines_kept
returns-else-fields_kept-3 c = grind (arith, nat_tests)
