-- What `ringlist` prints for every input (document 01, "Judge, host entry and `ringlist`"), from bytes to text.
use Rattle.std.specs.Prelude.{ℕ, cond, List, length, ltb, Err, Result}
use Rattle.refusal.specs.declared.Refusal.TheVariants.{SheetLength}
use Rattle.sheet.specs.Read.{read_sheet}
use Rattle.listing.specs.declared.Listing.{Listing}
use Rattle.listing.specs.Text.{reading_text}
use Rattle.listing.specs.Turns.{begun_reading}
use Rattle.refusal.specs.declared.Refusal.{Refusal}
use Rattle.molecule.specs.declared.Molecule.{Molecule}

-- What an input is read as; one above 65,529 bytes is refused by rule 1
unfoldable pub input_read : List ℕ → Result Molecule Refusal
input_read input = cond (ltb 65529 (length input)) (Err SheetLength) (read_sheet input)

-- The text of an input
abbrev pub printed_text : List ℕ → List ℕ
printed_text input = reading_text (input_read input)

-- Its listing, before the first piece
abbrev pub opened : List ℕ → Listing
opened input = begun_reading (input_read input)
