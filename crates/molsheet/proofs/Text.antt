-- The sheet of a record as the code writes it: the line of n and m, and then a line for each bond.
-- A field that blanks fill is the text of its number, so the sheet is bond lines.
use Rattle.std.specs.Prelude.{Err, Ok}
use Prim.Native.Nat.{ℕ, ◌+◌, ◌*◌, ◌≤◌, ◌<◌}
use native.Mathlib.Omega.{arith}
use mathlib.Core.Path.{◌≡◌, refl, ap, sym, ◌∙◌}
use mathlib.Core.Bool.{true}
use mathlib.Core.List.{List, [], ◌∷◌, ◌++◌, append_assoc, append-nil}
use lib.ListN.{length}
use Rattle.molecule.specs.declared.Molecule.{Molecule}
use Rattle.molecule.specs.Record.{well_formed}
use Rattle.molecule.specs.BondList.{Bond, bond_list}
use Rattle.molecule.proofs.BondCount.{bonds-count}
use Rattle.molecule.proofs.Bonds.{rule9}
use Rattle.refusal.specs.declared.Refusal.TheVariants as refusal
use Rattle.sheet.specs.Text.{later, lines_text, sheet_text, blanks, record_sheet}
use Rattle.sheet.proofs.EveryRecord.{record-sheet-size}
use Rattle.search.specs.Mark.{fields_text, bond_lines, write_answer, written_bytes}
use Rattle.search.proofs.BondLines.{bond-lines-length}
use Rattle.search.proofs.FormLaws.{write-fits, write-short}
use Rattle.bond_writer.specs.Parts.{spliced, BondsFit}
use Rattle.bond_writer.proofs.BondSplices.{lines-append}
use Rattle.bond_writer.proofs.Splices.{splice-start, splice-next}

-- lines that blanks fill
blank-lines : (xs : List Bond) → lines_text blanks xs ≡ bond_lines xs
unfolding lines_text bond_lines fields_text
blank-lines [] = refl
blank-lines (x ∷ xs) =
    let rest : lines_text (later blanks) xs ≡ bond_lines xs = blank-lines xs in
    rw rest (simp (append-nil, append_assoc))

module _ (mol : Molecule) (formed : well_formed mol ≡ true) where
  -- the line of n and m, and those of the bonds
  abbrev first : List ℕ
  first = bond_lines ((mol.atoms, mol.bonds) ∷ [])

  abbrev rest : List ℕ
  rest = bond_lines (bond_list mol.rows)

  sheet-lines : record_sheet mol ≡ first ++ rest
  unfolding record_sheet sheet_text
  sheet-lines =
      let count : length (bond_list mol.rows) ≡ mol.bonds = bonds-count mol formed in
      blank-lines ((mol.atoms, length (bond_list mol.rows)) ∷ bond_list mol.rows)
      ∙ rw count (lines-append ((mol.atoms, mol.bonds) ∷ []) (bond_list mol.rows))

  first-size : length first ≡ 9
  first-size = bond-lines-length ((mol.atoms, mol.bonds) ∷ [])

  pub sheet-size : length (record_sheet mol) ≡ 9 * (mol.bonds + 1)
  sheet-size = record-sheet-size mol formed

  pub few-bonds : mol.bonds ≤ 1024
  few-bonds = (rule9 mol formed).bonds_high

  module _ (out : List ℕ) where
    pub no_room :
        length out < 9 * (mol.bonds + 1) →
        (Err refusal.MarkRoom ≡ write_answer (record_sheet mol) out) ×
        (out ≡ written_bytes (Err refusal.MarkRoom) (record_sheet mol) out)
    no_room short = let size = sheet-size in (sym (write-short (record_sheet mol) out (omega arith)), refl)

    module _ (room : 9 * (mol.bonds + 1) ≤ length out) where
      pub bonds-fit : {one : List ℕ} → length one ≡ length out → BondsFit mol.rows mol.atoms one 9
      bonds-fit same =
          let rule = rule9 mol formed in
          let count = bonds-count mol formed in
          record { few = rule.atoms_high; sound = rule.rows-sound; room = omega arith }

      pub sheet-put :
          {one two : List ℕ} → one ≡ spliced 0 first out → two ≡ spliced 9 rest one →
          (Ok (9 * (mol.bonds + 1)) ≡ write_answer (record_sheet mol) out) ×
          (two ≡ written_bytes (Ok (9 * (mol.bonds + 1))) (record_sheet mol) out)
      sheet-put {one} {two} e1 e2 =
          let size = sheet-size in
          let front = first-size in
          let count = bonds-count mol formed in
          let back = bond-lines-length (bond_list mol.rows) in
          let joined = splice-next out first rest one 0 9 e1 (omega arith) (omega arith) in
          let text = ap (λ t. spliced 0 t out) (sym sheet-lines) in
          let answer = write-fits (record_sheet mol) out (omega arith) in
          (sym (answer ∙ ap Ok size), e2 ∙ joined ∙ text ∙ rw (← size) (splice-start out (record_sheet mol)))
