-- The two forms of a mark (document 02, F-6): the old one, from before request F-5, and the new one.
use Rattle.std.specs.Prelude.{List, ℕ, Result}
use Rattle.molecule.specs.declared.Molecule.{Molecule}
use Rattle.search.specs.declared.Search.{Search}
use Rattle.search.specs.declared.Form.{Form}
use Rattle.search.specs.declared.Form.TheVariants.{Old, New}
use Rattle.search.specs.Mark.{mark_text, restore_mark}
use Rattle.search.specs.OldMark.{old_mark_text, restore_old_mark}
use Rattle.refusal.specs.declared.Refusal.{Refusal}

-- The mark of a search on a molecule in a form
abbrev pub mark_in : Form → Molecule → Search → List ℕ
mark_in Old = old_mark_text
mark_in New = mark_text

-- What bytes restore to, read in a form: rules 9, 14, 15, 16, 17
abbrev pub restore_in : Form → Molecule → List ℕ → Result Search Refusal
restore_in Old = restore_old_mark
restore_in New = restore_mark
