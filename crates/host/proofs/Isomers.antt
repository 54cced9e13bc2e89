-- A mark in a call from C (document 02, F-5): its bond lines are laid out as on a blank-filled sheet, and a call with
-- the mark of an isomer is refused by 15. Line by line; and by the law of the mark of another molecule.
use Rattle.std.specs.Prelude.{Ok}
use Prim.Native.Nat.{ℕ}
use mathlib.Core.Path.{◌≡◌, refl, ap, sym, ◌∙◌}
use mathlib.Core.Bool.{true, false}
use mathlib.Core.List.{List, [], ◌∷◌, ◌++◌, append_assoc, append-nil}
use lib.ListN.{length}
use Rattle.fields.specs.Field.{field_text}
use Rattle.refusal.specs.declared.Refusal.TheVariants as refusal
use Rattle.molecule.specs.declared.Molecule.{Molecule}
use Rattle.molecule.specs.Record.{bonded, well_formed}
use Rattle.molecule.specs.BondList.{Bond}
use Rattle.sheet.specs.Read.{read_sheet}
use Rattle.sheet.specs.Text.{Fillings, lines_text, sheet_text}
use Rattle.sheet.proofs.Accepted.{accepted-well-formed}
use Rattle.search.specs.declared.Search.{Search}
use Rattle.search.specs.Place.{restorable}
use Rattle.search.specs.Mark.{fields_text, bond_lines, mark_text}
use Rattle.search.proofs.Belonging.{isomer-refused}
use Rattle.host.specs.Resume.{refused_call, search_for, resume}
use Rattle.host.proofs.Answers.{search-restored}
use Rattle.host.proofs.Gate.{search-refused}
use Rattle.host.proofs.Sizes.{mark-some}

-- blanks fill every field of a sheet
abbrev pub blanks : Fillings
blanks i = (false, false)

bond-lines : (xs : List Bond) → lines_text blanks xs ≡ bond_lines xs
unfolding lines_text bond_lines fields_text
bond-lines [] = refl
bond-lines (x ∷ xs) =
    ap (λ (l : List ℕ). field_text 4 x.0 ++ (field_text 4 x.1 ++ (10 ∷ l))) (bond-lines xs)
    ∙ sym (simp (append_assoc, append-nil))

-- A blank-filled sheet is the line of n and m, and then its bond lines as a mark has them
pub sheet-lines : (n : ℕ) (bonds : List Bond) → sheet_text blanks n bonds ≡ bond_lines ((n, length bonds) ∷ bonds)
unfolding sheet_text
sheet-lines n bonds = bond-lines ((n, length bonds) ∷ bonds)

-- A call with a sheet and the mark of a molecule that has another bond, or one less, is refused by 15
pub isomer-turned-back :
    (sheet : List ℕ) (A B : Molecule) (q : Search) (budget : ℕ) (rings next : List ℕ) →
    read_sheet sheet ≡ Ok B → well_formed A ≡ true → restorable A q ≡ true → length q.prefix ≡ 128 →
    (a b : ℕ) → (bonded A.atoms A.rows a b ≡ bonded B.atoms B.rows a b → ⊥) →
    resume sheet (mark_text A q) budget rings next ≡ refused_call refusal.MarkMolecule rings next
isomer-turned-back sheet A B q budget rings next read formed kept full a b differ =
    let refused = isomer-refused A B q formed (accepted-well-formed sheet B read) kept full a b differ in
    let made = sym (search-restored B (mark_text A q) (mark-some A q)) ∙ refused in
    sym (search-refused (λ r. refused_call r rings next) sheet (λ mol. search_for mol (mark_text A q)) next _ read made)
