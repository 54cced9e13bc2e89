-- The molecule record of document 01: n and m, and for each of 128 atoms a row of 16 bytes.
use Rattle.std.specs.Prelude.{ℕ, ◌+◌, ◌-◌, ◌*◌, ◌/◌, ◌%◌, ◌^◌, Bool, ◌&&◌, ◌||◌, not, List, [], ◌∷◌, length, get_or, take, drop, replicate, leb, ltb, eqb}
use Rattle.std.specs.Bool.{beq}
use Rattle.std.specs.Int.Count.{ones}
use Rattle.graph.specs.Every.{all_below}
use Rattle.graph.specs.Chordless.{Adjacency}
use Rattle.molecule.specs.declared.Molecule.{Molecule}

-- bit k of a byte
abbrev pub bit : ℕ → ℕ → Bool
bit x k = eqb (x / 2 ^ k % 2) 1

-- Row i, column j, both counted from 0: bit j mod 8 of byte j / 8 of
-- the row. It is 1 exactly when atom i + 1 is bonded to atom j + 1
unfoldable pub cell : List ℕ → ℕ → ℕ → Bool
cell rows i j = bit (get_or rows (16 * i + j / 8) 0) (j % 8)

abbrev pub is_atom : ℕ → ℕ → Bool
is_atom n a = leb 1 a && leb a n

-- The bonds of a record: two atoms from 1 to n, and their bit
unfoldable pub bonded : ℕ → List ℕ → Adjacency
bonded n rows a b = is_atom n a && is_atom n b && cell rows (a - 1) (b - 1)

-- the one bits of a list of bytes
unfoldable pub ones_of : List ℕ → ℕ
ones_of [] = 0
ones_of (x ∷ xs) = ones x + ones_of xs

-- The neighbours of the atom of row i, counted from 0: the one bits of its row (law `neighbours-counted`)
unfoldable pub neighbours : List ℕ → ℕ → ℕ
neighbours rows i = ones_of (take 16 (drop (16 * i) rows))

-- every row and every column of the 128 passes
abbrev pub every_cell : (ℕ → ℕ → Bool) → Bool
every_cell test = all_below 128 (λ i. all_below 128 (test i))

-- For each of 128 atoms a row of 16 bytes
unfoldable pub rows_of_bytes : List ℕ → Bool
rows_of_bytes rows = eqb (length rows) 2048 && all_below 2048 (λ at. ltb (get_or rows at 0) 256)

-- Rows are symmetric, no atom is bonded to itself, rows and bits beyond n are zero
unfoldable pub symmetric : List ℕ → Bool
symmetric rows = every_cell (λ i j. beq (cell rows i j) (cell rows j i))

unfoldable pub loopless : List ℕ → Bool
loopless rows = all_below 128 (λ i. not (cell rows i i))

unfoldable pub within : ℕ → List ℕ → Bool
within n rows = every_cell (λ i j. not (cell rows i j) || ltb i n && ltb j n)

-- Rule 9: n and m in the sheet's ranges, the rows and their rules, and the one bits number 2 × m
unfoldable pub well_formed : Molecule → Bool
well_formed mol =
    leb mol.atoms 128
    && leb mol.bonds 1024
    && rows_of_bytes mol.rows
    && symmetric mol.rows
    && loopless mol.rows
    && within mol.atoms mol.rows
    && eqb (ones_of mol.rows) (2 * mol.bonds)

-- The fresh molecule: no atoms, no bonds, every byte zero
unfoldable pub fresh_molecule : Molecule
fresh_molecule = record { atoms = 0; bonds = 0; rows = replicate 2048 0 }
