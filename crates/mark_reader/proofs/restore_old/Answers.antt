-- `mark_reader::restore_old` meets its contract: each answer is the definition's by the rules that led to it.
-- The three lines that are kept have room for the atoms that they name.
use mathlib.Core.Path.{◌∙◌, sym}
use Rattle.mark_reader.proofs.Answers.{refuses-old-lines, old-placeable, old-goes-on}
use Rattle.mark_reader.proofs.restore_old.Goals as goal

pub returns-then-not-three_lines_kept : goal.returns-then-not-three_lines_kept
returns-then-not-three_lines_kept c =
    refuses-old-lines _ _ c.requires (sym c.if-not-three_lines_kept.ensures)

pub own_search-requires : goal.own_search-requires
own_search-requires c = old-placeable _ _ c.requires (sym c.if-not-three_lines_kept.ensures)

pub returns : goal.returns
returns c =
    c.own_search.ensures ∙ old-goes-on _ _ c.requires (sym c.if-not-three_lines_kept.ensures)
