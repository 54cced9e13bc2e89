-- The theorem of `ringlist`: for every input, the texts of the turns, joined, are the text of the input; and its first
-- 65,536 bytes decide it. By the laws of a listing, since the record of an accepted input keeps rule 9.
use Prim.Native.Nat.{ℕ, ◌≤◌, ◌<◌}
use native.Mathlib.Omega.{arith}
use mathlib.Core.Path.{◌≡◌, refl, ap, sym}
use mathlib.Core.Logic.{inl, inr}
use mathlib.Core.Bool.{Bool, true, false, cond}
use mathlib.Core.List.{List}
use lib.ListN.{length, take}
use lib.Seq.{take_all, length-take-le}
use lib.Dec.{ltb}
use borrow.Author.Tests.{lt-ltb, le-ltb, ltb-true, ltb-false}
use Rattle.enumeration.proofs.Basics.{Decided, decided}
use Rattle.refusal.specs.declared.Refusal.TheVariants.{SheetLength}
use Rattle.molecule.specs.Record.{well_formed}
use Rattle.sheet.specs.Read.{read_sheet}
use Rattle.sheet.proofs.Accepted.{accepted-well-formed}
use Rattle.listing.specs.declared.Listing.{Listing}
use Rattle.listing.specs.Sound.{Sound}
use Rattle.listing.specs.Text.{reading_text}
use Rattle.listing.specs.Turns.{Prints}
use Rattle.listing.specs.Printing.{piece, ListedPart, ListedWhole, ListsPart}
use Rattle.listing.proofs.Joined.{Formed, reading-sound, reading-prints}
use Rattle.listing.proofs.Printing.{piece-room}
use Rattle.listing.proofs.Printing as printing
use Rattle.std.specs.Prelude.{Option, Result, IfSome, OnOk, Err, Ok}
use Rattle.std.specs.Io.KnownBytes.{Appends}
use Rattle.ringlist.specs.Text.{input_read, printed_text, opened}
use Rattle.refusal.specs.declared.Refusal.{Refusal}
use Rattle.molecule.specs.declared.Molecule.{Molecule}

-- what an input is read as, by its length
pub read-long : (input : List ℕ) → 65529 < length input → Err SheetLength ≡ input_read input
unfolding input_read
read-long input h = rw (lt-ltb 65529 (length input) h)

pub read_short : (input : List ℕ) → length input ≤ 65529 → read_sheet input ≡ input_read input
unfolding input_read
read_short input h = rw (le-ltb 65529 (length input) h)

-- The text of an input of at most 65,529 bytes is that of the sheet
pub short-input : (input : List ℕ) → length input ≤ 65529 → printed_text input ≡ reading_text (read_sheet input)
short-input input h = ap (λ (x : Result Molecule Refusal). reading_text x) (sym (read_short input h))

-- The record of an accepted input keeps rule 9
input-formed : (input : List ℕ) → Formed (input_read input)
unfolding input_read
input-formed input m = go (ltb 65529 (length input))
  where
    go : (long : Bool) → cond long (Err SheetLength) (read_sheet input) ≡ Ok m → well_formed m ≡ true
    go true e = let z : ◌≡◌ {A = ℕ} 0 1 = cc in absurd (omega arith)
    go false e = accepted-well-formed input m e

pub opened-sound : (input : List ℕ) → Sound (opened input)
opened-sound input = reading-sound (input_read input) (input-formed input)

-- The turns from the listing of an input come to a last one, and their texts, joined, are the text of the input
pub turns-joined :
    (buffer : List ℕ) → 65536 ≤ length buffer → (input : List ℕ) → Prints (opened input) buffer (printed_text input)
turns-joined buffer room input = reading-prints buffer room (input_read input) (input-formed input)

-- The first 65,536 bytes of an input decide what it is read as, and so its text: `main` reads no more
first_read : (input : List ℕ) → input_read (take 65536 input) ≡ input_read input
unfolding input_read
first_read input = by (decided (ltb 65536 (length input)))
  where
    by : Decided (ltb 65536 (length input)) → input_read (take 65536 input) ≡ input_read input
    by (inr e) = rw (take_all 65536 input (ltb-false 65536 (length input) e)) refl
    by (inl e) =
        let more = ltb-true 65536 (length input) e in
        let size : length (take 65536 input) ≡ 65536 = length-take-le 65536 input (omega arith) in
        rw (size, lt-ltb 65529 (length input) (omega arith)) refl

pub first-bytes : (input : List ℕ) → printed_text (take 65536 input) ≡ printed_text input
first-bytes input = ap (λ (x : Result Molecule Refusal). reading_text x) (first_read input)

-- ---- what `list` prints for the bytes that it has read

module _
    {opens : List ℕ → Listing → Type 0} (opens-one : (bytes : List ℕ) (l : Listing) → opens bytes l → l ≡ opened bytes)
    (left rest old new : Option (List ℕ))
  where
    pub lists-part : ListedPart opens 65536 left rest old new → ListsPart printed_text left rest old new
    lists-part =
        printing.lists-part opened printed_text 65536 opens-one (λ input short. turns-joined piece piece-room input)
        first-bytes left rest old new

    pub lists-all :
        {T E : Type 0} (r : Result T E) → OnOk r (ListedWhole opens 65536 left rest old new) →
        OnOk r (IfSome left (λ input. Appends old new (printed_text input)))
    lists-all =
        printing.lists-all opened printed_text 65536 opens-one (λ input short. turns-joined piece piece-room input)
        first-bytes left rest old new
