-- What the parts of the record check decide. Nothing to believe: the law `rows-rules` relates them to rule 9, and
-- `ascending-bonds` relates the last one to the list of a record's bonds.
use Rattle.std.specs.Prelude.{ℕ, ◌+◌, ◌*◌, ◌/◌, ◌%◌, ◌≡◌, Bool, true, ◌&&◌, ◌||◌, not, List, [], ◌∷◌, length, get_or, ltb, eqb}
use Rattle.graph.specs.Every.{all_below}
use Rattle.molecule.specs.Record.{bit, cell, bonded, ones_of, rows_of_bytes}
use Rattle.molecule.specs.BondList.{Bond}

-- a bit in row i and column j is within n, off the diagonal, and has its mirror image
unfoldable pub mirrored : List ℕ → ℕ → ℕ → ℕ → Bool
mirrored rows n i j = ltb i n && ltb j n && not (eqb i j) && cell rows j i

unfoldable pub bit_sound : List ℕ → ℕ → ℕ → ℕ → Bool
bit_sound rows n at k = not (bit (get_or rows at 0) k) || mirrored rows n (at / 16) (at % 16 * 8 + k)

unfoldable pub byte_sound : List ℕ → ℕ → ℕ → Bool
byte_sound rows n at = all_below 8 (bit_sound rows n at)

unfoldable pub rows_sound : List ℕ → ℕ → Bool
rows_sound rows n = all_below 2048 (byte_sound rows n)

-- every pair of a list is a bond of the record
unfoldable pub each_bonded : ℕ → List ℕ → List Bond → Bool
each_bonded n rows [] = true
each_bonded n rows (x ∷ xs) = bonded n rows x.0 x.1 && each_bonded n rows xs

-- the ones of some rows, which are bytes
pub record CountedOnes (rows : List ℕ) (r : ℕ) : Type 0 where
  pub ones_are : r ≡ ones_of rows
  pub bytes : length rows ≡ 2048 → rows_of_bytes rows ≡ true
