-- `search_rules::check_search` meets its contract: its tests are those of rule 12, and that of the place comes last.
use native.Mathlib.Omega.{arith}
use Rattle.std.proofs.lemmas.Bool.Decides.{nat_tests}
use Rattle.search_rules.proofs.Checks.{place-last}
use Rattle.search_rules.proofs.check_search.Goals as goal

pub returns-then-counts_kept : goal.returns-then-counts_kept
returns-then-counts_kept c = rw (place-last c.args.m c.args.q) (grind (arith, nat_tests))

pub returns-else-counts_kept : goal.returns-else-counts_kept
returns-else-counts_kept c = rw (place-last c.args.m c.args.q) (grind (arith, nat_tests))
