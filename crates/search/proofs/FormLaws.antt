-- The laws of marks in either form: a saved one restores its search, an accepted one is saved again as the same bytes;
-- their lengths, rule 13, and the numbers that a mark is refused by. By the law of each form.
use Rattle.std.specs.Prelude.{Err, Ok, Result}
use Prim.Native.Nat.{ℕ, ◌+◌, ◌*◌, ◌≤◌, ◌<◌}
use native.Mathlib.Decide.{dec_le}
use native.Mathlib.Omega.{arith}
use mathlib.Core.Path.{◌≡◌, refl, sym}
use mathlib.Core.Bool.{Bool, true}
use mathlib.Core.List.{List, ◌++◌}
use mathlib.Core.Logic.{◌⊎◌, inl, inr}
use lib.ListN.{length, length-take}
use borrow.Author.Tests.{le-leb, lt-leb}
use Rattle.refusal.specs.declared.Refusal.{Refusal}
use Rattle.refusal.specs.declared.Refusal.TheVariants as refusal
use Rattle.refusal.proofs.Ranges.{Within, by-test}
use Rattle.refusal.proofs.Passed.{not_taken}
use Rattle.molecule.specs.declared.Molecule.{Molecule}
use Rattle.molecule.specs.Record.{well_formed}
use Rattle.molecule.specs.BondList.{bond_list}
use Rattle.molecule.proofs.Bonds.{rule9}
use Rattle.search.specs.declared.Search.{Search}
use Rattle.search.specs.declared.Form.{Form}
use Rattle.search.specs.declared.Form.TheVariants.{Old, New}
use Rattle.search.specs.Place.{family_of, beginning, kind_kept, place_kept, restorable}
use Rattle.search.specs.Mark.{bond_lines, mark_text, write_answer}
use Rattle.search.specs.Mark.{value_at, mark_beginning, layout_kept, belongs, placed_search, restore_by, restore_mark}
use Rattle.search.specs.OldMark.{old_layout_kept, old_belongs, restore_old_mark}
use Rattle.search.specs.Forms.{mark_in, restore_in}
use Rattle.search.proofs.Readings.{restorable-facts}
use Rattle.search.proofs.MarkLaws.{mark-length, saved-restores, restored-saves, restored-restorable}
use Rattle.search.proofs.OldMarkLaws.{old-mark-length, old-saved-restores, old-restored-saves}
use Rattle.search.proofs.OldMarkLaws.{old-restored-restorable}

-- The mark of a search that rule 12 allows restores that search
pub form-restores :
    (form : Form) (mol : Molecule) (q : Search) → well_formed mol ≡ true → restorable mol q ≡ true →
    length q.prefix ≡ 128 → restore_in form mol (mark_in form mol q) ≡ Ok q
form-restores Old = old-saved-restores
form-restores New = saved-restores

-- Any accepted mark, saved again, has the same bytes
pub form-saves :
    (form : Form) (mol : Molecule) (bytes : List ℕ) (q : Search) → restore_in form mol bytes ≡ Ok q →
    mark_in form mol q ≡ bytes
form-saves Old = old-restored-saves
form-saves New = restored-saves

-- An accepted mark restores a search that rule 12 allows, on a molecule that rule 9 allows
pub form-restorable :
    (form : Form) (mol : Molecule) (bytes : List ℕ) (q : Search) → restore_in form mol bytes ≡ Ok q →
    (well_formed mol ≡ true) × (restorable mol q ≡ true) × (length q.prefix ≡ 128)
form-restorable Old = old-restored-restorable
form-restorable New = restored-restorable

-- The new mark is the old one and then the bond lines of the molecule
pub form-lines :
    (mol : Molecule) (q : Search) → mark_in New mol q ≡ mark_in Old mol q ++ bond_lines (bond_list mol.rows)
unfolding mark_text
form-lines mol q = refl

-- It has 9 bytes more for each bond
pub form-lengths :
    (mol : Molecule) (q : Search) → well_formed mol ≡ true →
    length (mark_in New mol q) ≡ length (mark_in Old mol q) + 9 * mol.bonds
form-lengths mol q formed = omega (arith, mark-length mol q formed, old-mark-length mol q)

-- No mark is longer: 91 + 4 × 127 bytes, and 9 for each of 1,024 bonds
abbrev pub longest : Form → ℕ
longest Old = 599
longest New = 9815

old-most : (mol : Molecule) (q : Search) → restorable mol q ≡ true → length (mark_in Old mol q) ≤ 599
unfolding beginning
old-most mol q kept =
    let short = (restorable-facts mol q kept).short in
    omega (arith, old-mark-length mol q, length-take q.len q.prefix)

pub form-most :
    (form : Form) (mol : Molecule) (q : Search) → well_formed mol ≡ true → restorable mol q ≡ true →
    length (mark_in form mol q) ≤ longest form
form-most Old mol q formed kept = old-most mol q kept
form-most New mol q formed kept =
    omega (arith, form-lengths mol q formed, old-most mol q kept, (rule9 mol formed).bonds_high)

-- ---- rule 13

module _ (text out : List ℕ) where
  pub write-fits : length text ≤ length out → write_answer text out ≡ Ok (length text)
  write-fits h = rw (le-leb (length text) (length out) h)

  pub write-short : length out < length text → write_answer text out ≡ Err refusal.MarkRoom
  write-short h = rw (lt-leb (length text) (length out) h)

  -- A mark is written, or has no room
  abbrev Ways : Type 0
  Ways =
      ((length text ≤ length out) × (write_answer text out ≡ Ok (length text))) ⊎
      ((length out < length text) × (write_answer text out ≡ Err refusal.MarkRoom))

  pub write-ways : Ways
  write-ways = go (dec_le (length text) (length out))
    where
      go : Dec (length text ≤ length out) → Ways
      go (yes h) = inl (h, write-fits h)
      go (no h) = inr (omega arith, write-short (omega arith))

-- bytes that were written are no refusal, and are as many as they are
pub written-refused : {k : ℕ} {r : Refusal} → ◌≡◌ {A = Result ℕ Refusal} (Ok k) (Err r) → ⊥
written-refused e = not_taken (sym e)

pub written_same : {j k : ℕ} → ◌≡◌ {A = Result ℕ Refusal} (Ok j) (Ok k) → j ≡ k
written_same e = cc

-- ---- the numbers of the refusals

abbrev MarkRule : Result Search Refusal → Type 0
MarkRule x = Within 14 17 x

by-rules :
    (layout own : Bool) (mol : Molecule) (bytes : List ℕ) → well_formed mol ≡ true →
    MarkRule (restore_by layout own mol bytes)
unfolding restore_by placed_search
by-rules layout own mol bytes formed =
    let kind = value_at 4 bytes 0 in
    let s = value_at 4 bytes 4 in
    let t = value_at 4 bytes 8 in
    let place = place_kept (family_of mol kind s t) (mark_beginning bytes) (value_at 4 bytes 24) in
    rw formed
    (by-test MarkRule layout _ _ (omega arith, omega arith)
    (by-test MarkRule own _ _ (omega arith, omega arith)
    (by-test MarkRule (kind_kept mol.atoms kind s t) _ _ (omega arith, omega arith)
    (by-test MarkRule place _ _ (omega arith, omega arith) tt))))

-- On a molecule that rule 9 allows, a mark is refused by rules 14 to 17
pub form-rules :
    (form : Form) (mol : Molecule) (bytes : List ℕ) → well_formed mol ≡ true →
    Within 14 17 (restore_in form mol bytes)
unfolding restore_mark restore_old_mark
form-rules Old mol bytes = by-rules (old_layout_kept bytes) (old_belongs mol bytes) mol bytes
form-rules New mol bytes = by-rules (layout_kept bytes) (belongs mol bytes) mol bytes
