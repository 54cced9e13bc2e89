-- What `print` writes: the texts of the turns, joined, or a beginning of them where a write fails.
use Rattle.std.specs.Prelude.{ℕ, ◌≡◌, ◌≤◌, ◌<◌, List, Option, ◌++◌, length, replicate}
use Rattle.std.specs.Io.KnownBytes.{Appends, Consumes, IsAtEnd}
use Rattle.listing.specs.declared.Listing.{Listing}
use Rattle.listing.specs.Turns.{Prints}

-- the buffer of the first turn
unfoldable pub piece : List ℕ
piece = replicate 65536 0

-- what a writer holds, where it is known, grows by a beginning of the text
abbrev pub AppendsPart : Option (List ℕ) → Option (List ℕ) → List ℕ → Type 0
AppendsPart old new text = (front rest : List ℕ) × (text ≡ front ++ rest) × Appends old new front

-- it grows by the text of a listing, that of its turns to the last one
abbrev pub PrintsOn : Listing → Option (List ℕ) → Option (List ℕ) → Type 0
PrintsOn l old new = (text : List ℕ) × Prints l piece text × Appends old new text

-- or by a beginning of it
abbrev pub PrintsPart : Listing → Option (List ℕ) → Option (List ℕ) → Type 0
PrintsPart l old new = (text : List ℕ) × Prints l piece text × AppendsPart old new text

-- What a program does that lists an input of at most `room` bytes: some bytes are read, `opens` says which listing they
-- have, and a beginning of its text is printed, as what a reader has left and a writer holds, before and after;
pub record ListedPart
    (opens : List ℕ → Listing → Type 0) (room : ℕ) (left rest old new : Option (List ℕ)) : Type 0 where
  pub bytes : List ℕ
  pub within : length bytes ≤ room
  pub consumed : Consumes left rest bytes
  pub listing : Listing
  pub opened : opens bytes listing
  pub printed : PrintsPart listing old new

-- and where neither a read nor a write fails, all of it, of bytes that fill the room or are all that there is
pub record ListedWhole
    (opens : List ℕ → Listing → Type 0) (room : ℕ) (left rest old new : Option (List ℕ)) : Type 0 where
  pub bytes : List ℕ
  pub within : length bytes ≤ room
  pub consumed : Consumes left rest bytes
  pub whole : length bytes < room → IsAtEnd rest
  pub listing : Listing
  pub opened : opens bytes listing
  pub printed : PrintsOn listing old new

-- Where a read or a write fails, as what a reader has left and a writer holds, before and after: some bytes are read,
-- and a beginning of their text is printed
abbrev pub ListsPart :
    (List ℕ → List ℕ) → Option (List ℕ) → Option (List ℕ) → Option (List ℕ) → Option (List ℕ) → Type 0
ListsPart text left rest old new = (bytes : List ℕ) × Consumes left rest bytes × AppendsPart old new (text bytes)
