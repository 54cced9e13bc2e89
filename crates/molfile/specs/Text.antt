-- Molfiles as texts (document 02, F-1), for the laws that no other bytes count than those that name the symbols and
-- bonds, and that every molecule has a molfile: lines as they are written, what lines name, and plain molfiles.
use Rattle.std.specs.Prelude.{ℕ, ◌+◌, ◌-◌, ◌≤◌, ◌<◌, ◌≡◌, Bool, true, false, ◌&&◌, ◌||◌, not, List, [], ◌∷◌, ◌++◌, map, length, get_or, drop, replicate, eqb}
use Rattle.fields.specs.Field.{field_text}
use Rattle.molecule.specs.declared.Molecule.{Molecule}
use Rattle.molecule.specs.Record.{neighbours}
use Rattle.bonds.specs.Bonds.{Bond}
use Rattle.sheet.specs.Text.{bond_at}
use Rattle.molfile.specs.Lines.{file_line}
use Rattle.molfile.specs.Elements.{Table, limit_of}
use Rattle.molfile.specs.Molfile.{numbers_in, version, end_word, counts_line_kept, atom_line_kept, symbol_in, bond_line_kept, has_end}
use Rattle.molfile.specs.Molfile.{atom_line}

-- ---- lines as they are written

-- A line: its text, and whether a carriage return stands before its line feed
abbrev pub Written : Type 0
Written = List ℕ × Bool

abbrev pub return_of : Bool → List ℕ
return_of true = 13 ∷ []
return_of false = []

-- Each line's text and its end, and after the last line the bytes `rest`
unfoldable pub written_text : List Written → List ℕ → List ℕ
written_text [] rest = rest
written_text (line ∷ lines) rest = line.0 ++ (return_of line.1 ++ (10 ∷ written_text lines rest))

-- the texts
abbrev pub texts : List Written → List (List ℕ)
texts lines = map (λ (line : Written). line.0) lines

-- a byte does not occur in a text
unfoldable pub lacks : ℕ → List ℕ → Bool
lacks b [] = true
lacks b (x ∷ xs) = not (eqb x b) && lacks b xs

abbrev pub last_byte : List ℕ → ℕ
last_byte text = get_or text (length text - 1) 0

-- A text that a line can have: no line feed in it, and no carriage return at its end where none is written after it
unfoldable pub fits_line : Written → Bool
fits_line line = lacks 10 line.0 && (line.1 || not (eqb (last_byte line.0) 13))

unfoldable pub all_fit : List Written → Bool
all_fit [] = true
all_fit (line ∷ lines) = fits_line line && all_fit lines

-- ---- what lines name

-- The line of counts names the number of symbols and of bonds, then each line names its symbol or its bond, and
-- M  END follows. Of each line no more is said than that it is kept and what its columns hold
pub record Names (symbols : List (List ℕ)) (bonds : List Bond) (lines : List (List ℕ)) : Type 0 where
  pub counts-kept : counts_line_kept (file_line lines 3) ≡ true
  pub counts : numbers_in (file_line lines 3) ≡ (length symbols, length bonds)
  pub atom_kept : (i : ℕ) → i < length symbols → atom_line_kept (atom_line lines i) ≡ true
  pub symbol : (i : ℕ) → i < length symbols → symbol_in (atom_line lines i) ≡ get_or symbols i []
  pub bond_kept : (k : ℕ) → k < length bonds → bond_line_kept (file_line lines (4 + length symbols + k)) ≡ true
  pub bond : (k : ℕ) → k < length bonds → numbers_in (file_line lines (4 + length symbols + k)) ≡ bond_at bonds k
  pub ended : has_end (drop (4 + length symbols + length bonds) lines) ≡ true

-- ---- the plain molfile of some symbols and bonds

-- A symbol as an atom line has it: three bytes, none of them a line feed or a carriage return
pub record Symbol (text : List ℕ) : Type 0 where
  pub size : length text ≡ 3
  pub no_feed : lacks 10 text ≡ true
  pub no_return : lacks 13 text ≡ true

-- both atoms of a bond have at most three digits
pub record Small (bond : Bond) : Type 0 where
  pub left : bond.0 ≤ 999
  pub right : bond.1 ≤ 999

-- Symbols that a table allows the atoms of a molecule: it has each, and each atom has few enough neighbours
pub record Suits (table : Table) (mol : Molecule) (symbols : List (List ℕ)) : Type 0 where
  pub as_many : length symbols ≡ mol.atoms
  pub symbol : (i : ℕ) → i < mol.atoms → Symbol (get_or symbols i [])
  pub known : (i : ℕ) → i < mol.atoms → 1 ≤ limit_of table (get_or symbols i [])
  pub room : (i : ℕ) → i < mol.atoms → neighbours mol.rows i ≤ limit_of table (get_or symbols i [])

abbrev pub blank_columns : ℕ → List ℕ
blank_columns k = replicate k 32

-- two numbers of three columns, and what follows them
abbrev pub pair_text : ℕ → ℕ → List ℕ → List ℕ
pair_text a b rest = field_text 3 a ++ (field_text 3 b ++ rest)

abbrev pub counts_text : ℕ → ℕ → List ℕ
counts_text n m = pair_text n m (blank_columns 28 ++ version)

abbrev pub atom_text : List ℕ → List ℕ
atom_text symbol = blank_columns 31 ++ symbol

abbrev pub bond_text : Bond → List ℕ
bond_text bond = pair_text bond.0 bond.1 []

-- Three empty header lines, the line of counts, an atom line for each symbol, a bond line for each bond, and M  END
unfoldable pub plain_lines : List (List ℕ) → List Bond → List (List ℕ)
plain_lines symbols bonds =
    [] ∷ [] ∷ [] ∷ counts_text (length symbols) (length bonds)
    ∷ (map atom_text symbols ++ (map bond_text bonds ++ (end_word ∷ [])))

-- lines without carriage returns
abbrev pub unreturned : List (List ℕ) → List Written
unreturned lines = map (λ (line : List ℕ). (line, false)) lines

unfoldable pub plain_file : List (List ℕ) → List Bond → List ℕ
plain_file symbols bonds = written_text (unreturned (plain_lines symbols bonds)) []
