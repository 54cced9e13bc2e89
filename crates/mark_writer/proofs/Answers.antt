-- The answers of a save past rules 9 and 12: rule 13, or the mark written.
-- A mark is 91 + 4 × length + 9 × m bytes, so the test of the code is the definition's.
use Rattle.std.specs.Prelude.{Err, Ok, Result}
use Prim.Native.Nat.{ℕ, ◌+◌, ◌*◌, ◌≤◌, ◌<◌}
use native.Mathlib.Omega.{arith}
use mathlib.Core.Path.{◌≡◌, ap, sym, ◌∙◌}
use mathlib.Core.Bool.{true}
use mathlib.Core.List.{List}
use lib.ListN.{length}
use borrow.Author.Tests.{le-leb, lt-leb}
use Rattle.refusal.specs.declared.Refusal.TheVariants as refusal
use Rattle.molecule.specs.declared.Molecule.{Molecule}
use Rattle.molecule.specs.Record.{well_formed}
use Rattle.molecule.proofs.Bonds.{rule9}
use Rattle.search.specs.declared.Search.{Search}
use Rattle.search.specs.Place.{restorable}
use Rattle.search.specs.Mark.{mark_text, write_answer, written_bytes, save_answer, save_output}
use Rattle.search.specs.OldMark.{old_mark_text}
use Rattle.search.proofs.Readings.{restorable-facts}
use Rattle.search.proofs.Views.{beginning-length}
use Rattle.search.proofs.MarkLaws.{mark-length, save-allowed, save-room, save_writes, save-refused}
use Rattle.search.proofs.OldMarkLaws.{old-mark-length}
use Rattle.bond_writer.specs.Parts.{spliced}
use Rattle.mark_writer.specs.Parts.{LinesFit, MarkFits}
use Rattle.bond_writer.proofs.Splices.{splice-start}
use Rattle.refusal.specs.declared.Refusal.{Refusal}

-- what a save past rules 9 and 12 knows
pub record Saving (mol : Molecule) (q : Search) : Type 0 where
  pub formed : well_formed mol ≡ true
  pub kept : restorable mol q ≡ true
  pub full : length q.prefix ≡ 128

module _ {mol : Molecule} {q : Search} (s : Saving mol q) where
  pub saving-short : q.len ≤ 127
  saving-short = (restorable-facts mol q s.kept).short

  pub saving-few : mol.bonds ≤ 1024
  saving-few = (rule9 mol s.formed).bonds_high

  abbrev size : ℕ
  size = 91 + 4 * q.len + 9 * mol.bonds

  mark-size : length (mark_text mol q) ≡ size
  mark-size =
      mark-length mol q s.formed ∙
      ap (λ k. 91 + 4 * k + 9 * mol.bonds) (beginning-length q s.full saving-short)

  module _ (out : List ℕ) where
    pub saved-room :
        length out < size →
        (Err refusal.MarkRoom ≡ save_answer mol q out) × (out ≡ save_output mol q out)
    saved-room h =
        let answer = save-room mol q out s.formed s.kept (omega (arith, mark-size)) in
        (sym answer, sym (save-refused mol q out refusal.MarkRoom answer))

    module _ (room : size ≤ length out) where
      pub saving-fits : MarkFits mol q out
      saving-fits = record {
        formed = s.formed;
        lines = record { short = saving-short; full = s.full; room = omega arith };
        room = room;
      }

      pub saved-written :
          {last : List ℕ} → last ≡ spliced 0 (mark_text mol q) out →
          (Ok size ≡ save_answer mol q out) × (last ≡ save_output mol q out)
      unfolding save_output
      saved-written put =
          let answer = save_writes mol q out s.formed s.kept (omega (arith, mark-size)) in
          (rw (← mark-size) (sym answer), put ∙ splice-start out (mark_text mol q) ∙ rw answer)

    -- the same of an old mark
    old-size : length (old_mark_text mol q) ≡ 91 + 4 * q.len
    old-size = old-mark-length mol q ∙ ap (λ k. 91 + 4 * k) (beginning-length q s.full saving-short)

    pub old-room : length out < 91 + 4 * q.len → Err refusal.MarkRoom ≡ write_answer (old_mark_text mol q) out
    old-room h = let size = old-size in rw (lt-leb (length (old_mark_text mol q)) (length out) (omega arith))

    module _ (room : 91 + 4 * q.len ≤ length out) where
      pub old-fits : LinesFit q out
      old-fits = record { short = saving-short; full = s.full; room = room }

      pub old-written :
          {last : List ℕ} → last ≡ spliced 0 (old_mark_text mol q) out →
          (Ok (91 + 4 * q.len) ≡ write_answer (old_mark_text mol q) out) ×
          (last ≡ written_bytes (Ok (91 + 4 * q.len)) (old_mark_text mol q) out)
      old-written put =
          let size = old-size in
          let fits = le-leb (length (old_mark_text mol q)) (length out) (omega arith) in
          (rw (fits, size), rw (← size) (put ∙ splice-start out (old_mark_text mol q)))

    -- the new mark, whose save tries rules 9 and 12 too
    pub new-saved :
        {r : (Result ℕ Refusal)} {last : List ℕ} → (r ≡ save_answer mol q out) × (last ≡ save_output mol q out) →
        (r ≡ write_answer (mark_text mol q) out) × (last ≡ written_bytes r (mark_text mol q) out)
    unfolding save_output
    new-saved (answer, output) = (
      answer ∙ save-allowed mol q out s.formed s.kept,
      output ∙ ap (λ (x : Result ℕ Refusal). written_bytes x (mark_text mol q) out) (sym answer),
    )
