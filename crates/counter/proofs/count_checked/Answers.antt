-- `counter::count_checked` meets its contract: the number of shortest paths on a record that rule 9 allows.
-- Rules 10 and 11 first, then the number that `distance` tells over the words of the record, and rule 26.
use mathlib.Core.Path.{sym, ◌∙◌}
use Rattle.std.proofs.lemmas.Result.{err_from_is_err_and}
use Rattle.search.proofs.Readings.{ends-are-kept}
use Rattle.counter.proofs.Answers.{count-refused, told-within, told-above}
use Rattle.counter.proofs.Laws.{table-joined, table_capped}
use Rattle.counter.proofs.count_checked.Goals as goal

pub returns-in_err-check_ends : goal.returns-in_err-check_ends
returns-in_err-check_ends c =
    let refused = err_from_is_err_and c.from_residual.result c.from_residual.ensures.1 in
    let ends = sym c.check_ends.ensures ∙ c.in_err-check_ends.was in
    rw (refused.1, refused.2) (sym (count-refused _ _ _ c.requires ends))

pub number-number-requires : goal.number-number-requires
number-number-requires c =
    let kept = ends-are-kept _ _ _ (sym c.check_ends.ensures ∙ c.in_ok-check_ends.was) in
    table-joined _ _ _ c.requires kept _ c.words_of-table.ensures

pub returns-then-number-gt-LIMIT : goal.returns-then-number-gt-LIMIT
returns-then-number-gt-LIMIT c =
    let kept = ends-are-kept _ _ _ (sym c.check_ends.ensures ∙ c.in_ok-check_ends.was) in
    let told = table_capped _ _ _ c.requires kept _ c.words_of-table.ensures c.number-number.ensures in
    sym (told-above _ _ _ c.requires kept told c.if-number-gt-LIMIT.true)

pub returns : goal.returns
returns c =
    let kept = ends-are-kept _ _ _ (sym c.check_ends.ensures ∙ c.in_ok-check_ends.was) in
    let told = table_capped _ _ _ c.requires kept _ c.words_of-table.ensures c.number-number.ensures in
    sym (told-within _ _ _ c.requires kept told c.if-number-gt-LIMIT.false)
