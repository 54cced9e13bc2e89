-- Every n and list of bonds that keep the rules have a sheet in any choice of fillings, and it
-- reads to exactly that record: no reader that refuses all, or one of the fillings, would do.
-- Line i of the text is what its two numbers are written as, and a written field reads back.
use Rattle.std.specs.Prelude.{Option}
use Prim.Native.Nat.{ℕ, zero, suc, ◌+◌, ◌*◌, ◌/◌, ◌≤◌, ◌<◌}
use native.Mathlib.Nat.{add-zero, mul-mod_right, mul-div_right}
use native.Mathlib.Omega.{arith}
use mathlib.Core.Path.{◌≡◌, refl, ap, ap₂, sym, ◌∙◌}
use mathlib.Core.Bool.{Bool, true}
use mathlib.Core.List.{List, [], ◌∷◌, ◌++◌, append_assoc}
use lib.ListN.{length, get_or, take, drop, length-append}
use lib.Seq.{take_at, drop_at, drop-append-add, get_or-append-add, get_or-drop}
use borrow.Author.Tests.{le-leb}
use Rattle.graph.specs.Every.{all_below}
use Rattle.graph.proofs.Below.{and_parts, all_below-at, all_below-of}
use Rattle.fields.specs.declared.Number.{Number}
use Rattle.fields.specs.Field.{number, zero_first, read_field, filled_text, field_at}
use Rattle.fields.proofs.Laws.{written-reads-back, filled-length}
use Rattle.molecule.specs.Record.{is_atom}
use Rattle.molecule.proofs.Bonds.{atom-bounds}
use Rattle.bonds.specs.Bonds.{Bond, atoms_kept, none_to_itself, none_twice}
use Rattle.bonds.specs.Reading.{accepted_reading, read_bonds}
use Rattle.sheet.specs.Read.{length_kept, lines_kept, line_kept, line_of, atoms_of, bonds_of, bond_of, read_sheet}
use Rattle.sheet.specs.Text.{Fillings, later, lines_text, sheet_text, bond_at}
use Rattle.sheet.proofs.Lines.{line-good, line_is}
use Rattle.bonds.proofs.Answers.{bonds-read}
use Rattle.sheet.proofs.Answers.{Lined, sheet-read}
use Rattle.bonds.proofs.Same.{bonds-same}
use Rattle.bonds.proofs.Stored.{within, atoms-kept-is}

pub lines-length : (zeros : Fillings) (xs : List Bond) → length (lines_text zeros xs) ≡ 9 * length xs
unfolding lines_text
lines-length zeros [] = refl
lines-length zeros (x ∷ xs) =
    let left = filled-length (zeros 0).0 4 x.0 in
    let right = filled-length (zeros 0).1 4 x.1 in
    simp (length-append, left, right, lines-length (later zeros) xs) (omega arith)

-- ---- the first line of a text

-- a field holds v, in one filling or the other
abbrev Holds : Option Number → ℕ → Type 0
Holds field v = (filled : Bool) × (field ≡ number v filled)

module _ (zeros : Fillings) (x : Bond) (xs : List Bond) where
  abbrev left_text : List ℕ
  left_text = filled_text (zeros 0).0 4 x.0

  abbrev right_text : List ℕ
  right_text = filled_text (zeros 0).1 4 x.1

  abbrev rest_text : List ℕ
  rest_text = lines_text (later zeros) xs

  left-length : length left_text ≡ 4
  left-length = filled-length (zeros 0).0 4 x.0

  right-length : length right_text ≡ 4
  right-length = filled-length (zeros 0).1 4 x.1

  first-left : x.0 < 10000 → Holds (field_at 4 (lines_text zeros (x ∷ xs)) 0) x.0
  unfolding lines_text
  first-left small =
      let field = take_at left_text (right_text ++ (10 ∷ rest_text)) 4 left-length in
      (zero_first left_text, rw field (written-reads-back (zeros 0).0 4 x.0 small (omega arith) (omega arith)))

  first-right : x.1 < 10000 → Holds (field_at 4 (lines_text zeros (x ∷ xs)) 4) x.1
  unfolding lines_text
  first-right small =
      let skip = drop_at left_text (right_text ++ (10 ∷ rest_text)) 4 left-length in
      let field = take_at right_text (10 ∷ rest_text) 4 right-length in
      let read = written-reads-back (zeros 0).1 4 x.1 small (omega arith) (omega arith) in
      (zero_first right_text, rw (skip, field) read)

  first-end : get_or (lines_text zeros (x ∷ xs)) 8 0 ≡ 10
  unfolding lines_text
  first-end =
      let outer = get_or-append-add left_text (right_text ++ (10 ∷ rest_text)) 4 0 in
      let inner = get_or-append-add right_text (10 ∷ rest_text) 0 0 in
      rw left-length at outer ∙ rw right-length at inner

  -- its nine bytes, and the rest of the text
  abbrev nine : List ℕ
  nine = left_text ++ (right_text ++ (10 ∷ []))

  nine-length : length nine ≡ 9
  nine-length = simp (length-append, left-length, right-length)

  nine-first : lines_text zeros (x ∷ xs) ≡ nine ++ rest_text
  unfolding lines_text
  nine-first =
      let inner = append_assoc right_text (10 ∷ []) rest_text in
      sym (append_assoc left_text (right_text ++ (10 ∷ [])) rest_text ∙ ap (λ l. left_text ++ l) inner)

  skip-line : (k : ℕ) → drop (9 + k) (lines_text zeros (x ∷ xs)) ≡ drop k (lines_text (later zeros) xs)
  skip-line k = rw (nine-first, ← nine-length) (drop-append-add nine rest_text k)

-- ---- any line of a text

Small : List Bond → Type 0
Small xs = (i : ℕ) → i < length xs → ((bond_at xs i).0 < 10000) × ((bond_at xs i).1 < 10000)

fewer-small : (x : Bond) (xs : List Bond) → Small (x ∷ xs) → Small xs
unfolding Small
fewer-small x xs small i h = small (suc i) (omega arith)

-- a line further on is the line before it of the rest
module _ (zeros : Fillings) (x : Bond) (xs : List Bond) (i : ℕ) where
  abbrev whole : List ℕ
  whole = lines_text zeros (x ∷ xs)

  abbrev rest : List ℕ
  rest = lines_text (later zeros) xs

  shift-field : (k v : ℕ) → Holds (field_at 4 rest (9 * i + k)) v → Holds (field_at 4 whole (9 * suc i + k)) v
  shift-field k v (filled, holds) =
      let sum : 9 * suc i + k ≡ 9 + (9 * i + k) = omega arith in
      let skipped = ap (λ d. drop d whole) sum ∙ skip-line zeros x xs (9 * i + k) in
      (filled, ap (λ l. read_field (take 4 l)) skipped ∙ holds)

  shift-byte : get_or whole (9 * suc i + 8) 0 ≡ get_or rest (9 * i + 8) 0
  shift-byte =
      let sum : 9 * suc i + 8 ≡ 9 + (9 * i + 8) = omega arith in
      ap (λ d. get_or whole d 0) sum
      ∙ sym (get_or-drop 9 whole (9 * i + 8) 0)
      ∙ ap (λ l. get_or l (9 * i + 8) 0) (skip-line zeros x xs 0)

-- the parts of line i
text-left :
    (zeros : Fillings) (xs : List Bond) (i : ℕ) → i < length xs → Small xs →
    Holds (field_at 4 (lines_text zeros xs) (9 * i + 0)) (bond_at xs i).0
unfolding Small
text-left zeros [] i h small = absurd (omega arith)
text-left zeros (x ∷ xs) zero h small = first-left zeros x xs (small 0 h).0
text-left zeros (x ∷ xs) (suc i) h small =
    shift-field zeros x xs i 0 (bond_at xs i).0 (text-left (later zeros) xs i (omega arith) (fewer-small x xs small))

text-right :
    (zeros : Fillings) (xs : List Bond) (i : ℕ) → i < length xs → Small xs →
    Holds (field_at 4 (lines_text zeros xs) (9 * i + 4)) (bond_at xs i).1
unfolding Small
text-right zeros [] i h small = absurd (omega arith)
text-right zeros (x ∷ xs) zero h small = first-right zeros x xs (small 0 h).1
text-right zeros (x ∷ xs) (suc i) h small =
    shift-field zeros x xs i 4 (bond_at xs i).1 (text-right (later zeros) xs i (omega arith) (fewer-small x xs small))

text-end :
    (zeros : Fillings) (xs : List Bond) (i : ℕ) → i < length xs → get_or (lines_text zeros xs) (9 * i + 8) 0 ≡ 10
text-end zeros [] i h = absurd (omega arith)
text-end zeros (x ∷ xs) zero h = first-end zeros x xs
text-end zeros (x ∷ xs) (suc i) h = shift-byte zeros x xs i ∙ text-end (later zeros) xs i (omega arith)

-- each line is kept, and holds its two numbers
module _ (zeros : Fillings) (xs : List Bond) (small : Small xs) (i : ℕ) (h : i < length xs) where
  text-kept : line_kept (lines_text zeros xs) i ≡ true
  text-kept =
      line-good _ i (rw (add-zero (9 * i)) at (text-left zeros xs i h small)).1 (text-right zeros xs i h small).1
      (text-end zeros xs i h)

  text-line : line_of (lines_text zeros xs) i ≡ bond_at xs i
  text-line =
      line_is _ i (rw (add-zero (9 * i)) at (text-left zeros xs i h small)).1 (text-right zeros xs i h small).1
      (text-end zeros xs i h)

-- the numbers of a sheet that keeps the rules are small
sheet-small :
    (n : ℕ) (bonds : List Bond) → n ≤ 128 → length bonds ≤ 1024 → atoms_kept n (bond_at bonds) (length bonds) ≡ true →
    Small ((n, length bonds) ∷ bonds)
unfolding Small within
sheet-small n bonds few light kept zero h = (omega arith, omega arith)
sheet-small n bonds few light kept (suc k) h =
    let all = sym (atoms-kept-is n (bond_at bonds) (length bonds)) ∙ kept in
    let here = all_below-at (length bonds) (within n (bond_at bonds)) all k (omega arith) in
    let both = and_parts (is_atom n (bond_at bonds k).0) (is_atom n (bond_at bonds k).1) here in
    let left = atom-bounds n (bond_at bonds k).0 both.0 in
    let right = atom-bounds n (bond_at bonds k).1 both.1 in
    (omega arith, omega arith)

-- The sheet of n atoms and some bonds reads to their record, whatever fills its fields
pub every-molecule-has-a-sheet :
    (zeros : Fillings) (n : ℕ) (bonds : List Bond) → n ≤ 128 → length bonds ≤ 1024 →
    atoms_kept n (bond_at bonds) (length bonds) ≡ true → none_to_itself (bond_at bonds) (length bonds) ≡ true →
    none_twice (bond_at bonds) (length bonds) ≡ true →
    read_sheet (sheet_text zeros n bonds) ≡ accepted_reading n (bond_at bonds) (length bonds)
unfolding sheet_text length_kept lines_kept
every-molecule-has-a-sheet zeros n bonds few light atoms apart twice =
    sheet-read lined (rw (← atoms-here) at few) (rw (← bonds-here) at light) size-here
    ∙ ap₂ (λ x y. read_bonds x (bond_of text) y) atoms-here bonds-here
    ∙ bonds-same n (bond_of text) (bond_at bonds) (length bonds)
    (λ k h. text-line zeros all small (suc k) (omega arith))
    ∙ bonds-read n (bond_at bonds) (length bonds) atoms apart twice
  where
    all : List Bond
    all = (n, length bonds) ∷ bonds

    text : List ℕ
    text = lines_text zeros all

    small : Small all
    small = sheet-small n bonds few light atoms

    size : length text ≡ 9 * suc (length bonds)
    size = lines-length zeros all

    count : length text / 9 ≡ suc (length bonds)
    count = rw size (mul-div_right (suc (length bonds)) (omega arith))

    lines : all_below (length text / 9) (line_kept text) ≡ true
    lines = rw count (all_below-of (suc (length bonds)) (line_kept text) (λ i h. text-kept zeros all small i h))

    whole : length_kept text ≡ true
    whole =
        rw (size, le-leb 9 (9 * suc (length bonds)) (omega arith), mul-mod_right 9 (suc (length bonds)))

    lined : Lined text
    lined = record { whole = whole; lines = lines }

    atoms-here : atoms_of text ≡ n
    atoms-here = ap (λ x. x.0) (text-line zeros all small 0 (omega arith))

    bonds-here : bonds_of text ≡ length bonds
    bonds-here = ap (λ x. x.1) (text-line zeros all small 0 (omega arith))

    size-here : length text ≡ 9 * suc (bonds_of text)
    size-here = size ∙ sym (ap (λ b. 9 * suc b) bonds-here)
