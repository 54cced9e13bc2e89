-- `count::count_shortest` meets its contract: rule 9, and then the count past it.
-- By `count-no-record` and the contract of `count_checked`.
use mathlib.Core.Path.{sym, ◌∙◌}
use Rattle.counter.proofs.Answers.{count-no-record}
use Rattle.count.proofs.count_shortest.Goals as goal

pub returns-then-not-well_formed : goal.returns-then-not-well_formed
returns-then-not-well_formed c = sym (count-no-record _ _ _ (sym c.well_formed-2.ensures ∙ c.if-not-well_formed.true))

pub count_checked-requires : goal.count_checked-requires
count_checked-requires c = sym c.well_formed-2.ensures ∙ c.if-not-well_formed.false

pub returns : goal.returns
returns c = c.count_checked.ensures
