-- What the entries for C that resume and start a search do first (document 01, "Judge, host entry and `ringlist`";
-- document 02, F-4): the rules by which they turn a call back, in their order.
use Rattle.std.specs.Prelude.{ℕ, cond, List, length, leb, Err, Ok, Result, ⊤}
use Rattle.refusal.specs.declared.Refusal.{Refusal}
use Rattle.refusal.specs.declared.Refusal.TheVariants as refusal
use Rattle.refusal.specs.Answers.{unless_refused}
use Rattle.molecule.specs.declared.Molecule.{Molecule}
use Rattle.sheet.specs.Read.{read_sheet}
use Rattle.search.specs.declared.Search.{Search}

-- The bytes that a mark output has at least: 91 + 4 × 127 + 9 × 1,024, and no mark is longer (document 02, F-5)
abbrev pub mark_room : ℕ
mark_room = 9815

-- Rule 13 of these entries, of a mark output of so many bytes
abbrev pub room_asked : ℕ → Result ⊤ Refusal
room_asked size = cond (leb mark_room size) (Ok tt) (Err refusal.MarkRoom)

-- The sheet is read (rules 1 to 8), a search is made on its record (by the rules of `make`), so many bytes are asked
-- for the mark output (13), and the call goes on
unfoldable pub gated :
    {A : Type 0} → (Refusal → A) → List ℕ → (Molecule → Result Search Refusal) → List ℕ → (Molecule → Search → A) → A
gated refuse sheet make next goes =
    unless_refused (read_sheet sheet) refuse (λ mol.
    unless_refused (make mol) refuse (λ q.
    unless_refused (room_asked (length next)) refuse (λ kept. goes mol q)))
