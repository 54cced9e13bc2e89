-- `openness::one_opens` meets its contract: a number that is no atom begins no ring, by `one-no-atom`.
use mathlib.Core.Path.{sym, ◌∙◌}
use Rattle.openness.proofs.Opens.{one-no-atom}
use Rattle.openness.proofs.one_opens.Goals as goal

pub returns-else-is_atom : goal.returns-else-is_atom
returns-else-is_atom c =
    let none = sym c.is_atom.ensures ∙ c.if-is_atom.false in
    c.if-is_atom.false ∙ sym (one-no-atom _ _ _ c.args.beginning.now c.requires.2 c.from-a.ensures none)
