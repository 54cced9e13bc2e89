-- `host::ringlist_listed` meets its contract.
-- By its tests, which are those of the definition.
use mathlib.Core.Path.{◌∙◌}
use Rattle.host.proofs.Answers.{listed-short, listed-value}
use Rattle.host.proofs.ringlist_listed.Goals as goal

pub returns-then-mark-lt91 : goal.returns-then-mark-lt91
returns-then-mark-lt91 c = listed-short _ c.if-mark-lt91.true

pub returns : goal.returns
returns c = c.unwrap_or.ensures ∙ listed-value _ c.if-mark-lt91.false c.filled_value.ensures
