-- `host::search_for` meets its contract.
-- By whether the mark has bytes.
use Rattle.std.specs.Prelude.{Ok}
use mathlib.Core.Path.{ap, sym, ◌∙◌}
use borrow.Author.Tests.{eqb-true, eqb-false}
use Rattle.host.proofs.Answers.{search-fresh, search-restored}
use Rattle.host.proofs.search_for.Goals as goal

pub returns-then-is_empty : goal.returns-then-is_empty
returns-then-is_empty c =
    let none = eqb-true _ 0 (sym c.is_empty.ensures ∙ c.if-is_empty.true) in
    ap Ok c.fresh_search.ensures ∙ search-fresh _ _ c.requires none

pub returns : goal.returns
returns c =
    let some = eqb-false _ 0 (sym c.is_empty.ensures ∙ c.if-is_empty.false) in
    c.restore_checked.ensures ∙ search-restored _ _ some
