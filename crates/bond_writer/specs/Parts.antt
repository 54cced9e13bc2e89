-- What the parts of writing bond lines hold. Nothing to believe: who writes lines says so by `bond_lines`.
use Rattle.std.specs.Prelude.{ℕ, zero, suc, ◌+◌, ◌*◌, ◌≤◌, ◌<◌, ◌≡◌, true, ◌&&◌, cond, List, [], ◌∷◌, ◌++◌, length, take, drop}
use Rattle.molecule.specs.Record.{symmetric, loopless, within}
use Rattle.molecule.specs.BondList.{Bond, pair_of, bond_here, bond_list}
use Rattle.search.specs.Mark.{bond_lines}

-- a list with a text over its bytes from a place on
unfoldable pub spliced : ℕ → List ℕ → List ℕ → List ℕ
spliced at text bytes = take at bytes ++ text ++ drop (at + length text) bytes

-- the bonds of k cells of the rows, from cell p on
unfoldable pub bonds_between : List ℕ → ℕ → ℕ → List Bond
bonds_between rows p zero = []
bonds_between rows p (suc k) =
    cond (bond_here rows (p + k)) (bonds_between rows p k ++ (pair_of (p + k) ∷ [])) (bonds_between rows p k)

-- those of cell k of a byte, of a byte, and of a row
abbrev pub cell_bonds : List ℕ → ℕ → ℕ → List Bond
cell_bonds rows at k = bonds_between rows (8 * at + k) 1

abbrev pub byte_bonds : List ℕ → ℕ → List Bond
byte_bonds rows at = bonds_between rows (8 * at) 8

abbrev pub row_bonds : List ℕ → ℕ → List Bond
row_bonds rows row = bonds_between rows (128 * row) 128

-- the lines of bonds stand over the bytes from a place on: the bytes then, and the place past the lines
pub record LinesPut (bonds : List Bond) (place : ℕ) (bytes after : List ℕ) (end : ℕ) : Type 0 where
  pub ends : end ≡ place + 9 * length bonds
  pub put : after ≡ spliced place (bond_lines bonds) bytes

-- a cell of a byte of the rows, and room for the line of its bond
pub record CellFits (rows : List ℕ) (at k : ℕ) (bytes : List ℕ) (place : ℕ) : Type 0 where
  pub inside : at < 2048
  pub small : k < 8
  pub room : place + 9 * length (cell_bonds rows at k) ≤ length bytes

-- a byte of the rows, and room for the lines of its bonds
pub record ByteFits (rows : List ℕ) (at : ℕ) (bytes : List ℕ) (place : ℕ) : Type 0 where
  pub inside : at < 2048
  pub room : place + 9 * length (byte_bonds rows at) ≤ length bytes

-- a row of one of n atoms, and room for the lines of its bonds
pub record RowFits (rows : List ℕ) (n row : ℕ) (bytes : List ℕ) (place : ℕ) : Type 0 where
  pub few : n ≤ 128
  pub one : row < n
  pub sound : (symmetric rows && loopless rows && within n rows) ≡ true
  pub room : place + 9 * length (row_bonds rows row) ≤ length bytes

-- rows of n atoms, and room for the lines of their bonds
pub record BondsFit (rows : List ℕ) (n : ℕ) (bytes : List ℕ) (at : ℕ) : Type 0 where
  pub few : n ≤ 128
  pub sound : (symmetric rows && loopless rows && within n rows) ≡ true
  pub room : at + 9 * length (bond_list rows) ≤ length bytes
