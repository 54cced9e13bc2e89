-- `mark_reader::own_search` meets its contract.
-- By its test: rule 15 refuses, or rules 16 and 17 decide.
use Rattle.std.proofs.Common.{rules}
use Rattle.mark_reader.specs.Parts.{own_search}
use Rattle.mark_reader.proofs.own_search.Goals as goal

pub returns-then-not-is_own : goal.returns-then-not-is_own
unfolding own_search
returns-then-not-is_own c = search rules

pub returns : goal.returns
unfolding own_search
returns c = search rules
