-- Marks as they were before request F-5, for request F-6: three lines without bond lines, belonging by n and m.
use Rattle.std.specs.Prelude.{Bool, ◌&&◌, List, ℕ, eqb, Result}
use Rattle.molecule.specs.declared.Molecule.{Molecule}
use Rattle.search.specs.declared.Search.{Search}
use Rattle.search.specs.Mark.{value_at, mark_bonds, three_lines, three_lines_kept, restore_by}
use Rattle.refusal.specs.declared.Refusal.{Refusal}

-- An old mark: 91 + 4 × length bytes
abbrev pub old_mark_text : Molecule → Search → List ℕ
old_mark_text = three_lines

-- Rule 14 kept by an old mark: the three lines, and no byte past them
abbrev pub old_layout_kept : List ℕ → Bool
old_layout_kept bytes = three_lines_kept 0 bytes

-- Rule 15 kept by an old mark: n and m agree
abbrev pub old_belongs : Molecule → List ℕ → Bool
old_belongs mol bytes = eqb (value_at 4 bytes 12) mol.atoms && eqb (mark_bonds bytes) mol.bonds

-- A restore of an old mark: rules 9, 14, 15, 16, 17
unfoldable pub restore_old_mark : Molecule → List ℕ → Result Search Refusal
restore_old_mark mol bytes = restore_by (old_layout_kept bytes) (old_belongs mol bytes) mol bytes
