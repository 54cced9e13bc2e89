-- The theorem of `molrings`: for every input, the texts of the turns, joined, are the text of the input; and it is what
-- is printed for the sheet of the molfile. By the laws of a listing, since an accepted record keeps rule 9.
use Prim.Native.Nat.{ℕ, ◌≤◌}
use native.Mathlib.Omega.{arith}
use mathlib.Core.Path.{◌≡◌, refl}
use mathlib.Core.List.{List}
use lib.ListN.{length}
use Rattle.sheet.specs.Read.{read_sheet}
use Rattle.sheet.specs.Text.{record_sheet}
use Rattle.molecule.specs.declared.Molecule.{Molecule}
use Rattle.molecule.proofs.Bonds.{rule9}
use Rattle.sheet.proofs.EveryRecord.{record-sheet-size, record-sheet-reads}
use Rattle.molfile.specs.Elements.{built_in}
use Rattle.molfile.specs.Molfile.{read_molfile}
use Rattle.molfile.proofs.Accepted.{accepted-well-formed}
use Rattle.listing.specs.declared.Listing.{Listing}
use Rattle.listing.specs.Sound.{Sound}
use Rattle.listing.specs.Text.{reading_text}
use Rattle.listing.specs.Turns.{Prints}
use Rattle.listing.specs.Printing.{piece, ListedPart, ListedWhole, ListsPart}
use Rattle.listing.proofs.Joined.{reading-sound, reading-prints}
use Rattle.listing.proofs.Printing.{piece-room}
use Rattle.listing.proofs.Printing as printing
use Rattle.std.specs.Prelude.{Option, Result, IfSome, OnOk, Ok}
use Rattle.std.proofs.Common.{ap, subst, take, take-take, take_all, le_refl}
use Rattle.std.specs.Io.KnownBytes.{Appends}
use Rattle.molrings.specs.Text.{first_bytes, molrings_text, molrings_listing}

pub opened-sound : (bytes : List ℕ) → Sound (molrings_listing bytes)
opened-sound bytes = reading-sound (read_molfile built_in bytes) (accepted-well-formed built_in bytes)

-- The turns from the listing of an input come to a last one, and their texts, joined, are the text of the input
pub turns-joined :
    (buffer : List ℕ) → 65536 ≤ length buffer → (input : List ℕ) →
    Prints (molrings_listing (first_bytes input)) buffer (molrings_text input)
turns-joined buffer room input =
    let bytes = first_bytes input in
    reading-prints buffer room (read_molfile built_in bytes) (accepted-well-formed built_in bytes)

-- The text of an accepted molfile is what `ringlist` prints for the blank-filled sheet of its record: that sheet is at
-- most 9,225 bytes long (`short-input` of `ringlist`)
pub prints-its-sheet :
    (input : List ℕ) (m : Molecule) → read_molfile built_in (first_bytes input) ≡ Ok m →
    (molrings_text input ≡ reading_text (read_sheet (record_sheet m))) × (length (record_sheet m) ≤ 9225)
prints-its-sheet input m e =
    let formed = accepted-well-formed built_in (first_bytes input) m e in
    let sheet = record-sheet-reads m formed in
    let size = record-sheet-size m formed in
    let few = (rule9 m formed).bonds_high in
    (rw (sheet, e) refl, omega arith)

-- ---- what `list` prints for the bytes that it has read

-- bytes that have room are their own first ones
prints-bytes :
    (bytes : List ℕ) → length bytes ≤ 262144 → Prints (molrings_listing bytes) piece (molrings_text bytes)
prints-bytes bytes short =
    subst (λ (own : List ℕ). Prints (molrings_listing own) piece (molrings_text bytes)) (take_all 262144 bytes short)
    (turns-joined piece piece-room bytes)

first-decide : (input : List ℕ) → molrings_text (take 262144 input) ≡ molrings_text input
first-decide input =
    ap (λ (bytes : List ℕ). reading_text (read_molfile built_in bytes)) (take-take 262144 262144 input (le_refl 262144))

module _
    {opens : List ℕ → Listing → Type 0}
    (opens-one : (bytes : List ℕ) (l : Listing) → opens bytes l → l ≡ molrings_listing bytes)
    (left rest old new : Option (List ℕ))
  where
    pub lists-part : ListedPart opens 262144 left rest old new → ListsPart molrings_text left rest old new
    lists-part = printing.lists-part molrings_listing molrings_text 262144 opens-one prints-bytes first-decide
        left rest old new

    pub lists-all :
        {T E : Type 0} (r : Result T E) → OnOk r (ListedWhole opens 262144 left rest old new) →
        OnOk r (IfSome left (λ input. Appends old new (molrings_text input)))
    lists-all = printing.lists-all molrings_listing molrings_text 262144 opens-one prints-bytes first-decide
        left rest old new
