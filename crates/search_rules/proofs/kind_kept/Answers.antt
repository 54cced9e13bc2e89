-- `search_rules::kind_kept` meets its contract: its definition, kind by kind.
use native.Mathlib.Omega.{arith}
use Rattle.std.proofs.lemmas.Bool.Decides.{nat_tests}
use Rattle.search.specs.Place.{kind_kept}
use Rattle.search_rules.proofs.kind_kept.Goals as goal

pub returns-then-s-eq0 : goal.returns-then-s-eq0
unfolding kind_kept
returns-then-s-eq0 c = grind (arith, nat_tests)

pub returns-else-s-eq0 : goal.returns-else-s-eq0
unfolding kind_kept
returns-else-s-eq0 c = grind (arith, nat_tests)

pub returns-in-1 : goal.returns-in-1
unfolding kind_kept
returns-in-1 c = grind (arith, nat_tests)

pub returns-then-t-eq0 : goal.returns-then-t-eq0
unfolding kind_kept
returns-then-t-eq0 c = grind (arith, nat_tests)

pub returns-else-t-eq0 : goal.returns-else-t-eq0
unfolding kind_kept
returns-else-t-eq0 c = grind (arith, nat_tests)

pub returns-in_default : goal.returns-in_default
unfolding kind_kept
returns-in_default c = grind (arith, nat_tests)
