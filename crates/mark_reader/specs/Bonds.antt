-- What the parts of reading bond lines hold. Nothing to believe: the contract of a restore is the definition of marks.
use Rattle.std.specs.Prelude.{ℕ, ◌+◌, ◌*◌, ◌≤◌, Bool, ◌&&◌, cond, List, length, ltb, Option, Some, None}
use Rattle.molecule.specs.BondList.{Bond, ascending, comes_before}
use Rattle.molecule.specs.Parts.{each_bonded}
use Rattle.search.specs.Mark.{value_at, field_kept, fields_kept, is_feed, bond_lines_kept, bonds_at}

-- the value of a field of 4 columns that zeros do not fill
abbrev pub kept_at : List ℕ → ℕ → Option ℕ
kept_at bytes at = cond (field_kept 4 bytes at) (Some (value_at 4 bytes at)) None

-- the bond line at a place
unfoldable pub line_at : List ℕ → ℕ → Option Bond
line_at bytes at =
    cond (fields_kept 4 bytes at 2 && is_feed bytes (at + 8)) (Some (value_at 4 bytes at, value_at 4 bytes (at + 4)))
    None

-- a bond has its lower atom first, and another comes before it
unfoldable pub followed : Bond → Bond → Bool
followed x y = ltb y.0 y.1 && comes_before x y

-- k bond lines from a place on are right, and in order after x
unfoldable pub lines_after : Bond → List ℕ → ℕ → ℕ → Bool
lines_after x bytes at k = bond_lines_kept bytes at k && ascending x (bonds_at bytes at k)

-- k bond lines are within the bytes, and n atoms fit a record
pub record BondsIn (n : ℕ) (bytes : List ℕ) (at k : ℕ) : Type 0 where
  pub few : n ≤ 128
  pub room : at + 9 * k ≤ length bytes

-- where k bond lines are right and in order, whether each is a bond of the record
unfoldable pub bonds_read : ℕ → List ℕ → List ℕ → ℕ → ℕ → Option Bool
bonds_read n rows bytes at k =
    cond (lines_after (0, 0) bytes at k) (Some (each_bonded n rows (bonds_at bytes at k))) None
