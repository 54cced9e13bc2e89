-- Sheets that differ in fillings only are read as the same record, and one that was accepted before is read as before.
-- The rules past rule 2 look at the numbers of the lines alone, and a number is the same in every filling.
use Rattle.std.specs.Prelude.{Err, None, Ok, Option, Result, Some}
use Prim.Native.Nat.{ℕ, suc, ◌+◌, ◌*◌, ◌/◌, ◌%◌, ◌<◌}
use native.Mathlib.Omega.{arith}
use mathlib.Core.Path.{◌≡◌, refl, ap, sym, ◌∙◌}
use mathlib.Core.Bool.{Bool, true, false, ◌&&◌, cond, true≢false}
use mathlib.Core.List.{List}
use lib.ListN.{length}
use lib.Dec.{leb, eqb}
use borrow.Author.Tests.{leb-true, eqb-true}
use Rattle.graph.specs.Every.{all_below}
use Rattle.graph.proofs.Below.{and_parts, all_below-at, all_below-of}
use Rattle.graph.proofs.Places.{all_same}
use Rattle.fields.specs.declared.Number.{Number}
use Rattle.fields.specs.Field.{field_at, is_value, value_of, value_at, Refilled}
use Rattle.fields.proofs.Laws.{refilled_same, as_before}
use Rattle.refusal.specs.declared.Refusal.TheVariants as refusal
use Rattle.bonds.specs.Bonds.{Bond}
use Rattle.bonds.specs.Reading.{read_bonds}
use Rattle.sheet.specs.Read.{length_kept, line_kept, lines_kept, line_of}
use Rattle.sheet.specs.Read.{few_atoms, few_bonds, size_kept, read_numbers, read_sheet}
use Rattle.sheet.specs.OtherFillings.{four_at, OtherFillings, field_before, line_kept_before, line_before, read_before}
use Rattle.bonds.proofs.Same.{bonds-same}
use Rattle.bonds.proofs.Record.{kept_on}
use Rattle.refusal.specs.declared.Refusal.{Refusal}
use Rattle.molecule.specs.declared.Molecule.{Molecule}

-- the same numbers in as many bytes
numbers-same :
    (size : ℕ) (line line' : ℕ → Bond) → line 0 ≡ line' 0 → ((i : ℕ) → i < size / 9 → line i ≡ line' i) →
    read_numbers size line ≡ read_numbers size line'
numbers-same size line line' first same =
    rw first
    (ap (λ (x : Result Molecule Refusal).
    cond (few_atoms n) (cond (few_bonds m) x (Err refusal.TooManyBonds))
    (Err refusal.TooManyAtoms))
    (go (size_kept size m) refl))
  where
    n : ℕ
    n = (line' 0).0

    m : ℕ
    m = (line' 0).1

    -- by whether the size is that of m bonds
    go :
        (t : Bool) → size_kept size m ≡ t →
        cond t (read_bonds n (λ k. line (suc k)) m) (Err refusal.SheetSize)
        ≡ cond t (read_bonds n (λ k. line' (suc k)) m) (Err refusal.SheetSize)
    go true e =
        let is = eqb-true size (9 * suc m) e in
        bonds-same n (λ k. line (suc k)) (λ k. line' (suc k)) m (λ k h. same (suc k) (omega arith))
    go false e = refl

-- ---- fillings alone

module _ (s s' : List ℕ) (other : OtherFillings s s') where
  -- the fields at a place of both sheets hold the same number, or none of them does
  field-same :
      (at : ℕ) → Refilled 4 (four_at s at) (four_at s' at) →
      (is_value (field_at 4 s at) ≡ is_value (field_at 4 s' at)) × (value_at 4 s at ≡ value_at 4 s' at)
  field-same at refilled = refilled_same 4 (four_at s at) (four_at s' at) (omega arith) refilled

  line-kept-same : (i : ℕ) → line_kept s i ≡ line_kept s' i
  unfolding line_kept
  line-kept-same i =
      rw ((field-same (9 * i) (other.left i)).0, (field-same (9 * i + 4) (other.right i)).0, other.ends i)

  line_same : (i : ℕ) → line_of s i ≡ line_of s' i
  unfolding line_of
  line_same i = rw ((field-same (9 * i) (other.left i)).1, (field-same (9 * i + 4) (other.right i)).1)

  -- Two sheets that differ in fillings only are read as the same record, or refused by the same number
  pub fillings-alone : read_sheet s ≡ read_sheet s'
  unfolding read_sheet length_kept lines_kept
  fillings-alone =
      let lines = all_same (length s / 9) (line_kept s) (line_kept s') (λ i h. line-kept-same i) in
      let numbers = numbers-same (length s) (line_of s) (line_of s') (line_same 0) (λ i h. line_same i) in
      rw (lines, numbers, other.size)

-- ---- as before

module _ (s : List ℕ) where
  -- a field that was accepted is accepted, with the same value
  field-before :
      (at : ℕ) → is_value (field_before s at) ≡ true →
      (is_value (field_at 4 s at) ≡ true) × (value_of (field_before s at) ≡ value_of (field_at 4 s at))
  field-before at e = go (field_before s at) refl e
    where
      go :
          (x : Option Number) → field_before s at ≡ x → is_value x ≡ true →
          (is_value (field_at 4 s at) ≡ true) × (value_of (field_before s at) ≡ value_of (field_at 4 s at))
      go (Some x) is e =
          let read = as_before (four_at s at) x.value x.zeros is in
          (ap is_value read, ap value_of is ∙ sym (ap value_of read))
      go None is e = absurd (true≢false (sym e))

  -- and so is a line
  line_before_lem : (i : ℕ) → line_kept_before s i ≡ true → (line_kept s i ≡ true) × (line_before s i ≡ line_of s i)
  unfolding line_kept_before line_before line_kept line_of
  line_before_lem i e =
      let (fields, feed) = and_parts (is_value (field_before s (9 * i)) && is_value (field_before s (9 * i + 4))) _ e in
      let (one, two) = and_parts (is_value (field_before s (9 * i))) (is_value (field_before s (9 * i + 4))) fields in
      let left = field-before (9 * i) one in
      let right = field-before (9 * i + 4) two in
      (rw (left.0, right.0, feed), rw (left.1, right.1))

  -- A sheet that was accepted before is read as before
  pub accepted-as-before : {mol : Molecule} → read_before s ≡ Ok mol → read_sheet s ≡ read_before s
  unfolding read_before read_sheet lines_kept length_kept
  accepted-as-before e =
      let (long, e2) = kept_on (length_kept s) _ _ e in
      let (lines, e3) = kept_on (all_below (length s / 9) (line_kept_before s)) _ _ e2 in
      let before = all_below-at (length s / 9) (line_kept_before s) lines in
      let kept = all_below-of (length s / 9) (line_kept s) (λ i h. (line_before_lem i (before i h)).0) in
      let least = leb-true 9 (length s) (and_parts (leb 9 (length s)) (eqb (length s % 9) 0) long).0 in
      let first = (line_before_lem 0 (before 0 (omega arith))).1 in
      rw (long, lines, kept)
      (sym (numbers-same (length s) (line_before s) (line_of s) first (λ i h. (line_before_lem i (before i h)).1)))
