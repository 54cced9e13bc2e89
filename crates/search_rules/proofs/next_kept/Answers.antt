-- `search_rules::next_kept` meets its contract: its definition, test by test.
use native.Mathlib.Omega.{arith}
use Rattle.std.proofs.lemmas.Bool.Decides.{nat_tests}
use Rattle.search_rules.specs.Parts.{next_kept}
use Rattle.search_rules.proofs.next_kept.Goals as goal

pub returns-then-is_atom : goal.returns-then-is_atom
unfolding next_kept
returns-then-is_atom c = grind (arith, nat_tests)

pub returns-then-len-eq0 : goal.returns-then-len-eq0
unfolding next_kept
returns-then-len-eq0 c = grind (arith, nat_tests)

pub returns-else-len-eq0 : goal.returns-else-len-eq0
unfolding next_kept
returns-else-len-eq0 c = grind (arith, nat_tests)
