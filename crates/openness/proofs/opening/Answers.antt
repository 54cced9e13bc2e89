-- `openness::opening` meets its contract, in each of its five answers.
-- By `nothing-ahead`, `nothing-wanted`, `sole-candidate`, `each_opens` and `sweep-opens`.
use Rattle.openness.proofs.Steps.{nothing-ahead, nothing-wanted, sole-candidate, each_opens, sweep-opens}
use Rattle.openness.proofs.opening.Goals as goal

pub returns-then-is_empty : goal.returns-then-is_empty
returns-then-is_empty c F most p x aim k = nothing-ahead k c.is_empty.ensures c.if-is_empty.true

pub returns-then-is_empty-2 : goal.returns-then-is_empty-2
returns-then-is_empty-2 c F most p x aim k = nothing-wanted k c.is_empty-2.ensures c.if-is_empty-2.true

pub returns-then-at_most_one : goal.returns-then-at_most_one
returns-then-at_most_one c F most p x aim k =
    sole-candidate k c.is_empty-3.ensures c.if-is_empty-3.true c.at_most_one.ensures
    c.if-at_most_one.true

pub returns-then-kind-eq3 : goal.returns-then-kind-eq3
returns-then-kind-eq3 c F most p x aim k = each_opens k c.if-kind-eq3.true c.minus.ensures

pub returns : goal.returns
returns c F most p x aim k = sweep-opens k c.reached.ensures
