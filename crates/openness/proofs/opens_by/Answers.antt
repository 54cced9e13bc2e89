-- `openness::opens_by` meets its contract: the set of the plan has the number or not.
-- By `has-outside` where it is no atom.
use mathlib.Core.Path.{sym, ◌∙◌}
use Rattle.atomset.proofs.Members.{has-outside}
use Rattle.openness.proofs.opens_by.Goals as goal

pub returns-else-is_atom : goal.returns-else-is_atom
returns-else-is_atom c = c.if-is_atom.false ∙ sym (has-outside _ _ (sym c.is_atom.ensures ∙ c.if-is_atom.false))
