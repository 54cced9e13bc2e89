-- Molfiles (document 02, F-1): what any bytes are read as, rules 18, 3, 4, 19, 6, 7, 8 and 20, each tried over the
-- whole input before the next. Columns are counted from 0 here, lines too.
use Rattle.std.specs.Prelude.{ℕ, zero, suc, ◌+◌, Bool, true, false, ◌&&◌, ◌||◌, cond, List, [], ◌∷◌, length, take, drop, leb, eqb, Err, Ok, Option, Result}
use Rattle.graph.specs.Every.{all_below}
use Rattle.fields.specs.declared.Number.{Number}
use Rattle.fields.specs.Field.{after_blanks, is_value, value_of}
use Rattle.refusal.specs.declared.Refusal.TheVariants as refusal
use Rattle.refusal.specs.Answers.{◌>>=◌}
use Rattle.molecule.specs.Record.{neighbours}
use Rattle.bonds.specs.Bonds.{Bond}
use Rattle.bonds.specs.Reading.{read_bonds}
use Rattle.sheet.specs.Read.{few_atoms, few_bonds}
use Rattle.molfile.specs.Lines.{lines_in, file_line, reaches, stands}
use Rattle.molfile.specs.Elements.{Table, limit_of}
use Rattle.refusal.specs.declared.Refusal.{Refusal}
use Rattle.molecule.specs.declared.Molecule.{Molecule}

-- A number of three columns: blanks, then one or more digits, leading zeros allowed, right-justified (what it says of
-- zeros is not used)
abbrev pub number_at : List ℕ → ℕ → Option Number
number_at line at = after_blanks true (take 3 (drop at line))

-- the two numbers in columns 1 to 3 and 4 to 6 of a line, and whether they are numbers
abbrev pub numbers_kept : List ℕ → Bool
numbers_kept line = is_value (number_at line 0) && is_value (number_at line 3)

abbrev pub numbers_in : List ℕ → Bond
numbers_in line = (value_of (number_at line 0), value_of (number_at line 3))

-- "V2000" and "M  END"
abbrev pub version : List ℕ
version = 86 ∷ 50 ∷ 48 ∷ 48 ∷ 48 ∷ []

abbrev pub end_word : List ℕ
end_word = 77 ∷ 32 ∷ 32 ∷ 69 ∷ 78 ∷ 68 ∷ []

-- ---- the lines

-- The fourth has atoms in columns 1 to 3, bonds in 4 to 6 and V2000 in 35 to 39
unfoldable pub counts_line_kept : List ℕ → Bool
counts_line_kept line = reaches 39 line && numbers_kept line && stands version 34 line

-- Atom lines have the symbol in columns 32 to 34
abbrev pub atom_line_kept : List ℕ → Bool
atom_line_kept line = reaches 34 line

abbrev pub symbol_in : List ℕ → List ℕ
symbol_in line = take 3 (drop 31 line)

-- Bond lines have the two atoms in columns 1 to 3 and 4 to 6
unfoldable pub bond_line_kept : List ℕ → Bool
bond_line_kept line = reaches 6 line && numbers_kept line

-- A line that is exactly M  END
unfoldable pub is_end : List ℕ → Bool
is_end line = eqb (length line) 6 && stands end_word 0 line

-- there is one
unfoldable pub has_end : List (List ℕ) → Bool
has_end [] = false
has_end (line ∷ lines) = is_end line || has_end lines

-- ---- what they name

-- Three header lines are skipped; the fourth names n and m
abbrev pub atoms_in : List (List ℕ) → ℕ
atoms_in lines = (numbers_in (file_line lines 3)).0

abbrev pub bonds_in : List (List ℕ) → ℕ
bonds_in lines = (numbers_in (file_line lines 3)).1

-- then n atom lines, m bond lines, and what follows them
abbrev pub atom_line : List (List ℕ) → ℕ → List ℕ
atom_line lines i = file_line lines (4 + i)

abbrev pub bond_line : List (List ℕ) → ℕ → List ℕ
bond_line lines k = file_line lines (4 + atoms_in lines + k)

abbrev pub past_bonds : List (List ℕ) → List (List ℕ)
past_bonds lines = drop (4 + atoms_in lines + bonds_in lines) lines

abbrev pub bond_in : List (List ℕ) → ℕ → Bond
bond_in lines k = numbers_in (bond_line lines k)

-- Rule 18 kept: no line (M  END too) or line feed is missing, each line reaches the last column named for it, V2000 is
-- in its columns, and every number is one
unfoldable pub form_kept : List (List ℕ) → Bool
form_kept lines =
    counts_line_kept (file_line lines 3)
    && all_below (atoms_in lines) (λ i. atom_line_kept (atom_line lines i))
    && all_below (bonds_in lines) (λ k. bond_line_kept (bond_line lines k))
    && has_end (past_bonds lines)

-- ---- the rules on n, m, the most neighbours of each atom (0: its symbol is not in the table), and the bonds

-- Rule 19 kept: every symbol is in the table
unfoldable pub symbols_kept : (ℕ → ℕ) → ℕ → Bool
symbols_kept limit n = all_below n (λ i. leb 1 (limit i))

-- Rule 20 kept: no atom has too many neighbours
unfoldable pub neighbours_kept : (ℕ → ℕ) → ℕ → List ℕ → Bool
neighbours_kept limit n rows = all_below n (λ i. leb (neighbours rows i) (limit i))

-- rule 20 on what the bonds are read as
abbrev pub within_limits : (ℕ → ℕ) → ℕ → Result Molecule Refusal → Result Molecule Refusal
within_limits limit n read =
    read >>= λ mol. cond (neighbours_kept limit n mol.rows) (Ok mol) (Err refusal.TooManyNeighbours)

-- Rules 3, 4, 19, then 6, 7 and 8, then 20
unfoldable pub read_atoms : ℕ → ℕ → (ℕ → ℕ) → (ℕ → Bond) → Result Molecule Refusal
read_atoms n m limit bond =
    cond (few_atoms n)
    (cond (few_bonds m)
    (cond (symbols_kept limit n) (within_limits limit n (read_bonds n bond m)) (Err refusal.UnknownSymbol))
    (Err refusal.TooManyBonds))
    (Err refusal.TooManyAtoms)

-- the most neighbours of each atom, by its symbol
abbrev pub limits_of : Table → List (List ℕ) → ℕ → ℕ
limits_of table lines i = limit_of table (symbol_in (atom_line lines i))

-- What lines are read as: rule 18 first
unfoldable pub read_lines : Table → List (List ℕ) → Result Molecule Refusal
read_lines table lines =
    cond (form_kept lines) (read_atoms (atoms_in lines) (bonds_in lines) (limits_of table lines) (bond_in lines))
    (Err refusal.MolfileLines)

-- What a molfile is read as with a table
abbrev pub read_molfile : Table → List ℕ → Result Molecule Refusal
read_molfile table bytes = read_lines table (lines_in bytes)

-- ---- the bonds that lines name, as a list, for the law that an accepted file is read as the sheet with the same bonds

-- the first m of some bonds
unfoldable pub first_bonds : (ℕ → Bond) → ℕ → List Bond
first_bonds bond zero = []
first_bonds bond (suc m) = bond 0 ∷ first_bonds (λ k. bond (suc k)) m

abbrev pub bonds_listed : List (List ℕ) → List Bond
bonds_listed lines = first_bonds (bond_in lines) (bonds_in lines)
