-- `text::read` meets its contract.
-- By the length of the input.
use Rattle.std.proofs.Common.{◌∙◌}
use Rattle.ringlist.proofs.Laws.{read-long, read_short}
use Rattle.ringlist.proofs.text.read.Goals as goal

pub returns-then-input-gt65529 : goal.returns-then-input-gt65529
returns-then-input-gt65529 c = read-long _ c.if-input-gt65529.true

pub returns : goal.returns
returns c = c.read_sheet.ensures ∙ read_short _ c.if-input-gt65529.false
