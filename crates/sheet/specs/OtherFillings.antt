-- Sheets in other fillings (request F-2), for two laws: sheets that differ in fillings only are read
-- as the same record, and a sheet that was accepted when blanks alone filled a field is read as before.
use Rattle.std.specs.Prelude.{ℕ, ◌+◌, ◌*◌, ◌/◌, ◌≡◌, Bool, false, ◌&&◌, cond, List, length, get_or, take, drop, eqb, Err, Option, Result}
use Rattle.graph.specs.Every.{all_below}
use Rattle.fields.specs.declared.Number.{Number}
use Rattle.fields.specs.Field.{after_blanks, is_value, value_of, Refilled}
use Rattle.refusal.specs.declared.Refusal.TheVariants as refusal
use Rattle.bonds.specs.Bonds.{Bond}
use Rattle.sheet.specs.Read.{length_kept, read_numbers}
use Rattle.refusal.specs.declared.Refusal.{Refusal}
use Rattle.molecule.specs.declared.Molecule.{Molecule}

-- the bytes of the field of 4 columns at a place
abbrev pub four_at : List ℕ → ℕ → List ℕ
four_at s at = take 4 (drop at s)

-- Two sheets that differ in fillings only: line by line the same fields but for fillings, and the same ends
pub record OtherFillings (s s' : List ℕ) : Type 0 where
  pub size : length s ≡ length s'
  pub left : (i : ℕ) → Refilled 4 (four_at s (9 * i)) (four_at s' (9 * i))
  pub right : (i : ℕ) → Refilled 4 (four_at s (9 * i + 4)) (four_at s' (9 * i + 4))
  pub ends : (i : ℕ) → get_or s (9 * i + 8) 0 ≡ get_or s' (9 * i + 8) 0

-- What a sheet was read as before the request: blanks, then digits, no leading zero
abbrev pub field_before : List ℕ → ℕ → Option Number
field_before s at = after_blanks false (four_at s at)

unfoldable pub line_kept_before : List ℕ → ℕ → Bool
line_kept_before s i =
    is_value (field_before s (9 * i)) && is_value (field_before s (9 * i + 4)) && eqb (get_or s (9 * i + 8) 0) 10

unfoldable pub line_before : List ℕ → ℕ → Bond
line_before s i = (value_of (field_before s (9 * i)), value_of (field_before s (9 * i + 4)))

unfoldable pub read_before : List ℕ → Result Molecule Refusal
read_before s =
    cond (length_kept s)
    (cond (all_below (length s / 9) (line_kept_before s)) (read_numbers (length s) (line_before s))
    (Err refusal.SheetBytes))
    (Err refusal.SheetLength)
