-- The bond sheet of document 01: what any bytes are read as,
-- rules 1 to 8, each tried over the whole input before the next.
use Rattle.std.specs.Prelude.{ℕ, suc, ◌+◌, ◌*◌, ◌/◌, ◌%◌, Bool, ◌&&◌, cond, List, length, get_or, leb, eqb, Err, Result}
use Rattle.graph.specs.Every.{all_below}
use Rattle.fields.specs.Field.{field_at, is_value, value_at}
use Rattle.refusal.specs.declared.Refusal.TheVariants as refusal
use Rattle.bonds.specs.Bonds.{Bond}
use Rattle.bonds.specs.Reading.{read_bonds}
use Rattle.refusal.specs.declared.Refusal.{Refusal}
use Rattle.molecule.specs.declared.Molecule.{Molecule}

-- Rule 1 kept: at least 9 bytes, and a multiple of 9
unfoldable pub length_kept : List ℕ → Bool
length_kept s = leb 9 (length s) && eqb (length s % 9) 0

-- line i, counted from 0: two fields of 4 columns, each filled with blanks or with zeros, and a line feed
unfoldable pub line_kept : List ℕ → ℕ → Bool
line_kept s i = is_value (field_at 4 s (9 * i)) && is_value (field_at 4 s (9 * i + 4)) &&
    eqb (get_or s (9 * i + 8) 0) 10

-- Rule 2 kept by every line
unfoldable pub lines_kept : List ℕ → Bool
lines_kept s = all_below (length s / 9) (line_kept s)

-- the two numbers of line i
unfoldable pub line_of : List ℕ → ℕ → Bond
line_of s i = (value_at 4 s (9 * i), value_at 4 s (9 * i + 4))

-- Line 1 holds atoms n and bonds m; each further line is one bond
abbrev pub atoms_of : List ℕ → ℕ
atoms_of s = (line_of s 0).0

abbrev pub bonds_of : List ℕ → ℕ
bonds_of s = (line_of s 0).1

abbrev pub bond_of : List ℕ → ℕ → Bond
bond_of s k = line_of s (suc k)

-- Rule 3 kept: n is at most 128
abbrev pub few_atoms : ℕ → Bool
few_atoms n = leb n 128

-- Rule 4 kept: m is at most 1,024
abbrev pub few_bonds : ℕ → Bool
few_bonds m = leb m 1024

-- Rule 5 kept: the sheet is 9 × (m + 1) bytes
abbrev pub size_kept : ℕ → ℕ → Bool
size_kept size m = eqb size (9 * suc m)

-- What the numbers of the lines of so many bytes are read as: rules 3, 4, 5, then rules 6, 7, 8
abbrev pub read_numbers : ℕ → (ℕ → Bond) → Result Molecule Refusal
read_numbers size line =
    cond (few_atoms (line 0).0)
    (cond (few_bonds (line 0).1)
    (cond (size_kept size (line 0).1)
    (read_bonds (line 0).0 (λ k. line (suc k)) (line 0).1)
    (Err refusal.SheetSize))
    (Err refusal.TooManyBonds))
    (Err refusal.TooManyAtoms)

-- What a sheet is read as: rules 1 and 2, then the rules on its numbers
unfoldable pub read_sheet : List ℕ → Result Molecule Refusal
read_sheet s =
    cond (length_kept s)
    (cond (lines_kept s) (read_numbers (length s) (line_of s)) (Err refusal.SheetBytes))
    (Err refusal.SheetLength)
