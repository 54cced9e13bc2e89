-- `start::fresh_paths` meets its contract, by rules 10 and 11 as `check_ends` answers them.
-- The laws of `Starts` say what the answer decides.
use Rattle.std.specs.Prelude.{Ok}
use mathlib.Core.Path.{sym, ap, ◌∙◌}
use Rattle.refusal.proofs.Passed.{handed_on}
use Rattle.search.proofs.Starts.{paths-refused, paths-fresh}
use Rattle.start.proofs.fresh_paths.Goals as goal

pub returns-in_err-check_ends : goal.returns-in_err-check_ends
returns-in_err-check_ends c =
    handed_on c.from_residual.result c.from_residual.ensures.1
    ∙ sym (paths-refused _ _ _ _ (sym c.check_ends.ensures ∙ c.in_err-check_ends.was))

pub returns : goal.returns
returns c = ap Ok c.fresh_search.ensures ∙ sym (paths-fresh _ _ _ _ (sym c.check_ends.ensures ∙ c.in_ok-check_ends.was))
