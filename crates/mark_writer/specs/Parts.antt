-- What the parts of saving write. Nothing to believe: the contract of a save is the definition of marks.
use Rattle.std.specs.Prelude.{ℕ, ◌+◌, ◌-◌, ◌*◌, ◌≤◌, ◌≡◌, true, List, length, drop}
use Rattle.molecule.specs.declared.Molecule.{Molecule}
use Rattle.molecule.specs.Record.{well_formed}
use Rattle.molecule.specs.BondList.{bond_list}
use Rattle.search.specs.declared.Search.{Search}
use Rattle.search.specs.Mark.{bond_lines, bonds_from}

-- another mark, and room for its bond lines
pub record CopyFits (mark bytes : List ℕ) (at : ℕ) : Type 0 where
  pub whole : bonds_from mark ≤ length mark
  pub room : at + (length mark - bonds_from mark) ≤ length bytes

-- no bytes, or a mark that has the bond lines of the molecule
pub record OwnLines (mol : Molecule) (mark : List ℕ) : Type 0 where
  pub whole : 1 ≤ length mark → bonds_from mark ≤ length mark
  pub lines : 1 ≤ length mark → drop (bonds_from mark) mark ≡ bond_lines (bond_list mol.rows)

-- a search with its beginning in an array of 128 places, and room for the three lines of its mark
pub record LinesFit (q : Search) (bytes : List ℕ) : Type 0 where
  pub short : q.len ≤ 127
  pub full : length q.prefix ≡ 128
  pub room : 91 + 4 * q.len ≤ length bytes

-- such a search on a record that rule 9 allows, and room for the whole mark
pub record MarkFits (mol : Molecule) (q : Search) (bytes : List ℕ) : Type 0 where
  pub formed : well_formed mol ≡ true
  pub lines : LinesFit q bytes
  pub room : 91 + 4 * q.len + 9 * mol.bonds ≤ length bytes
