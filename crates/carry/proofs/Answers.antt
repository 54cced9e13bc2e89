-- What a carrying returns and leaves, by the ways through it: the sheet is refused, the mark is, or the mark is saved.
-- From the definition, at the answers that were had on the way.
use Rattle.std.specs.Prelude.{Err, Ok, Result}
use Prim.Native.Nat.{ℕ}
use mathlib.Core.Path.{◌≡◌}
use mathlib.Core.List.{List}
use Rattle.refusal.specs.declared.Refusal.{Refusal}
use Rattle.molecule.specs.declared.Molecule.{Molecule}
use Rattle.sheet.specs.Read.{read_sheet}
use Rattle.search.specs.declared.Search.{Search}
use Rattle.search.specs.declared.Form.{Form}
use Rattle.search.specs.Mark.{write_answer, written_bytes}
use Rattle.search.specs.Forms.{mark_in, restore_in}
use Rattle.carry.specs.Carry.{carry_answer, carry_output}

module _ (from to : Form) (sheet mark out : List ℕ) where
  -- what is returned, and the output then
  abbrev Leaves : Result ℕ Refusal → List ℕ → Type 0
  Leaves r last = (r ≡ carry_answer from to sheet mark out) × (last ≡ carry_output from to sheet mark out)

  pub sheet-refuses : {r : Refusal} → read_sheet sheet ≡ Err r → Leaves (Err r) out
  unfolding carry_answer carry_output
  sheet-refuses e = (rw e, rw e)

  module _ {mol : Molecule} (read : read_sheet sheet ≡ Ok mol) where
    pub mark-refuses : {r : Refusal} → restore_in from mol mark ≡ Err r → Leaves (Err r) out
    unfolding carry_answer carry_output
    mark-refuses e = (rw (read, e), rw (read, e))

    pub saves :
        {q : Search} {r : Result ℕ Refusal} {last : List ℕ} → restore_in from mol mark ≡ Ok q →
        let text = mark_in to mol q in
        (r ≡ write_answer text out) × (last ≡ written_bytes r text out) → Leaves r last
    unfolding carry_answer carry_output
    saves e (is-answer, is-output) = (rw (read, e) is-answer, rw (read, e) (rw is-answer at is-output))
