-- What `molrings` prints for every input (document 02, F-1), from bytes to text.
use Rattle.std.specs.Prelude.{ℕ, List, take}
use Rattle.listing.specs.declared.Listing.{Listing}
use Rattle.listing.specs.Text.{reading_text}
use Rattle.listing.specs.Turns.{begun_reading}
use Rattle.molfile.specs.Elements.{built_in}
use Rattle.molfile.specs.Molfile.{read_molfile}

-- The bytes that are read: the first 262,144. The request names no limit; a file whose M  END comes later is refused by
-- rule 18, as one that has none
abbrev pub first_bytes : List ℕ → List ℕ
first_bytes input = take 262144 input

-- The text of an input: what is listed for its molfile, or the line of the refusal
abbrev pub molrings_text : List ℕ → List ℕ
molrings_text input = reading_text (read_molfile built_in (first_bytes input))

-- The listing of the bytes that were read, before the first piece
abbrev pub molrings_listing : List ℕ → Listing
molrings_listing bytes = begun_reading (read_molfile built_in bytes)
