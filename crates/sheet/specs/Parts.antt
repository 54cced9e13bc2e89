-- What the parts of the reader hold. Nothing to believe: the reader's contract is `read_sheet`.
use Rattle.std.specs.Prelude.{ℕ, min, ◌/◌, ◌≤◌, ◌<◌, ◌≡◌, true, false, cond, List, length, Option, Some, None, Ok, Err, Result, ⊤}
use Rattle.bonds.specs.Bonds.{Bond}
use Rattle.bonds.specs.Parts.{listed}
use Rattle.refusal.specs.declared.Refusal.{Refusal}
use Rattle.refusal.specs.declared.Refusal.TheVariants as refusal
use Rattle.sheet.specs.Read.{length_kept, lines_kept, line_kept, line_of}

-- the first lines, as many as may be stored, are there
pub record Decodes (values : List Bond) (line : ℕ → Bond) (lines : ℕ) : Type 0 where
  pub at : (i : ℕ) → i < lines → i < 1025 → listed values i ≡ line i

-- the two numbers of a line whose bytes are right
unfoldable pub numbers_at : List ℕ → ℕ → Option Bond
numbers_at s i = cond (line_kept s i) (Some (line_of s i)) None

-- the list of values has room for the lines of the bytes: those past the first 1,025 share a place
abbrev pub Decodable : List ℕ → List Bond → Type 0
Decodable s values = min (length s / 9) 1026 ≤ length values

-- bytes that keep rule 1, and their lines can be stored
pub record WholeLines (s : List ℕ) (values : List Bond) : Type 0 where
  pub whole : length_kept s ≡ true
  pub lines : Decodable s values

-- lines that keep rule 2, and the list of values
pub record LinesRead (s : List ℕ) (values : List Bond) : Type 0 where
  pub kept : lines_kept s ≡ true
  pub values_are : Decodes values (line_of s) (length s / 9)

-- every line that was read: all keep rule 2, or one breaks it
abbrev pub ReadsLines : List ℕ → Result ⊤ Refusal → List Bond → Type 0
ReadsLines s (Ok _) values = LinesRead s values
ReadsLines s (Err r) values = (r ≡ refusal.SheetBytes) × (lines_kept s ≡ false)
