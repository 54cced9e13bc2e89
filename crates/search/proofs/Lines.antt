-- Rule 14 as plain facts: three lines of fields, the sixth counting those of line 3, and so many bytes for each bond.
-- Along the bytes from front to back: what stands past each line is known from what stands past the one before it.
use Prim.Native.Nat.{ℕ, ◌+◌, ◌*◌, ◌≤◌}
use native.Mathlib.Omega.{arith}
use mathlib.Core.Path.{◌≡◌, refl, ap, sym, ◌∙◌}
use mathlib.Core.Bool.{Bool, true, ◌&&◌}
use mathlib.Core.List.{List, ◌∷◌, ◌++◌, append_assoc}
use lib.ListN.{length, get_or, drop, length-append}
use lib.Dec.{leb, eqb}
use borrow.Author.Tests.{le-leb, leb-true, eq-eqb, eqb-true}
use Rattle.graph.proofs.Below.{and_parts}
use Rattle.graph.proofs.All.{All}
use Rattle.molecule.specs.BondList.{ascending}
use Rattle.search.specs.Mark.{fields_text, line_feed, fields_kept, is_feed, mark_bonds, mark_length, three_lines_kept}
use Rattle.search.specs.Mark.{bond_lines_kept, bonds_from, bonds_named, layout_kept}
use Rattle.search.proofs.Text.{Fits, values_of, fields-length, Line, line_read, line-split}

-- three lines of fields
abbrev pub text_of : List ℕ → List ℕ → List ℕ → List ℕ
text_of head counts atoms =
    fields_text 4 head ++ line_feed ++ fields_text 20 counts ++ line_feed ++ fields_text 4 atoms ++ line_feed

pub text-length :
    (head counts atoms : List ℕ) → length head ≡ 7 → length counts ≡ 3 →
    length (text_of head counts atoms) ≡ 91 + 4 * length atoms
text-length head counts atoms h c = simp (length-append, fields-length, h, c) (omega arith)

-- ---- rule 14

-- The three lines, and past them so many bytes for each bond of the fifth field: 9, or none in marks before request F-5
pub record ThreeLines (per_bond : ℕ) (bytes : List ℕ) : Type 0 where
  pub size : length bytes ≡ 91 + 4 * mark_length bytes + per_bond * mark_bonds bytes
  pub most : mark_length bytes ≤ 127
  pub head_kept : fields_kept 4 bytes 0 7 ≡ true
  pub head_ends : get_or bytes 28 0 ≡ 10
  pub counts-kept : fields_kept 20 bytes 29 3 ≡ true
  pub counts_end : get_or bytes 89 0 ≡ 10
  pub atoms-kept : fields_kept 4 bytes 90 (mark_length bytes) ≡ true
  pub atoms_end : get_or bytes (90 + 4 * mark_length bytes) 0 ≡ 10

module _ (per_bond : ℕ) (bytes : List ℕ) where
  -- the length of p that the bytes name, and the number of bytes that they should have
  abbrev k : ℕ
  k = mark_length bytes

  abbrev whole : ℕ
  whole = 91 + 4 * k + per_bond * mark_bonds bytes

  pub three-lines-of : ThreeLines per_bond bytes → three_lines_kept per_bond bytes ≡ true
  unfolding three_lines_kept
  three-lines-of f =
      rw (
        le-leb 91 (length bytes) (omega arith),
        f.head_kept,
        eq-eqb (get_or bytes 28 0) 10 f.head_ends,
        f.counts-kept,
        eq-eqb (get_or bytes 89 0) 10 f.counts_end,
        le-leb k 127 f.most,
        eq-eqb (length bytes) whole f.size,
        f.atoms-kept,
        eq-eqb (get_or bytes (90 + 4 * k) 0) 10 f.atoms_end,
      )

  -- the tests up to each one
  abbrev t2 : Bool
  t2 = leb 91 (length bytes) && fields_kept 4 bytes 0 7

  abbrev t3 : Bool
  t3 = t2 && is_feed bytes 28

  abbrev t4 : Bool
  t4 = t3 && fields_kept 20 bytes 29 3

  abbrev t5 : Bool
  t5 = t4 && is_feed bytes 89

  abbrev t6 : Bool
  t6 = t5 && leb k 127

  abbrev t7 : Bool
  t7 = t6 && eqb (length bytes) whole

  abbrev t8 : Bool
  t8 = t7 && fields_kept 4 bytes 90 k

  pub three-lines-facts : three_lines_kept per_bond bytes ≡ true → ThreeLines per_bond bytes
  unfolding three_lines_kept
  three-lines-facts e =
      let (e8, atoms_end) = and_parts t8 (is_feed bytes (90 + 4 * k)) e in
      let (e7, atoms-kept) = and_parts t7 (fields_kept 4 bytes 90 k) e8 in
      let (e6, size) = and_parts t6 (eqb (length bytes) whole) e7 in
      let (e5, most) = and_parts t5 (leb k 127) e6 in
      let (e4, counts_end) = and_parts t4 (is_feed bytes 89) e5 in
      let (e3, counts-kept) = and_parts t3 (fields_kept 20 bytes 29 3) e4 in
      let (e2, head_ends) = and_parts t2 (is_feed bytes 28) e3 in
      let (e1, head_kept) = and_parts (leb 91 (length bytes)) (fields_kept 4 bytes 0 7) e2 in
      record {
        size = eqb-true (length bytes) whole size;
        most = leb-true k 127 most;
        head_kept = head_kept;
        head_ends = eqb-true (get_or bytes 28 0) 10 head_ends;
        counts-kept = counts-kept;
        counts_end = eqb-true (get_or bytes 89 0) 10 counts_end;
        atoms-kept = atoms-kept;
        atoms_end = eqb-true (get_or bytes (90 + 4 * k) 0) 10 atoms_end;
      }

-- The three lines and the bond lines
pub record Layout (bytes : List ℕ) : Type 0 where
  pub lines : ThreeLines 9 bytes
  pub bonds-kept : bond_lines_kept bytes (bonds_from bytes) (mark_bonds bytes) ≡ true
  pub ordered : ascending (0, 0) (bonds_named bytes) ≡ true

module _ (bytes : List ℕ) where
  pub layout-facts : layout_kept bytes ≡ true → Layout bytes
  unfolding layout_kept
  layout-facts e =
      let lines-kept = three_lines_kept 9 bytes in
      let bonds-kept = bond_lines_kept bytes (bonds_from bytes) (mark_bonds bytes) in
      let (kept, ordered) = and_parts (lines-kept && bonds-kept) (ascending (0, 0) (bonds_named bytes)) e in
      let (lines, bonds) = and_parts lines-kept bonds-kept kept in
      record { lines = three-lines-facts 9 bytes lines; bonds-kept = bonds; ordered = ordered }

  pub layout_of : Layout bytes → layout_kept bytes ≡ true
  unfolding layout_kept
  layout_of f = rw (three-lines-of 9 bytes f.lines, f.bonds-kept, f.ordered)

-- ---- the text of three lines keeps its part of the layout, and its values are those that it was made of

-- The bytes are three lines of fields, whose values fit their columns, and then the rest
pub record LinesOf (bytes head counts atoms rest : List ℕ) : Type 0 where
  pub is : bytes ≡ text_of head counts atoms ++ rest
  pub seven : length head ≡ 7
  pub three : length counts ≡ 3
  pub heads : All (Fits 4) head
  pub lows : All (Fits 20) counts
  pub fits : All (Fits 4) atoms

module _ {bytes head counts atoms rest : List ℕ} (l : LinesOf bytes head counts atoms rest) where
  -- what is read at each line
  head-line : Line 4 bytes 0 7 head (fields_text 20 counts ++ 10 ∷ (fields_text 4 atoms ++ 10 ∷ rest))
  head-line = line_read (omega arith) l.heads l.seven (l.is ∙ simp append_assoc)

  counts-line : Line 20 bytes 29 3 counts (fields_text 4 atoms ++ 10 ∷ rest)
  counts-line = line_read (omega arith) l.lows l.three (head-line.past 29 refl)

  atoms-line : Line 4 bytes 90 (length atoms) atoms rest
  atoms-line = line_read (omega arith) l.fits refl (counts-line.past 90 refl)

  pub head-values : values_of 4 bytes 0 7 ≡ head
  head-values = head-line.values

  pub count-values : values_of 20 bytes 29 3 ≡ counts
  count-values = counts-line.values

  pub mark-bonds-is : mark_bonds bytes ≡ get_or head 4 0
  mark-bonds-is = ap (λ l. get_or l 4 0) head-values

  module _ (counted : get_or head 5 0 ≡ length atoms) where
    pub mark-length-is : mark_length bytes ≡ length atoms
    mark-length-is = ap (λ l. get_or l 5 0) head-values ∙ counted

    -- the third line, its length as the bytes name it
    third-line : Line 4 bytes 90 (mark_length bytes) atoms rest
    third-line = rw mark-length-is atoms-line

    pub atom-values : values_of 4 bytes 90 (mark_length bytes) ≡ atoms
    atom-values = third-line.values

    pub rest_at : drop (bonds_from bytes) bytes ≡ rest
    rest_at = third-line.past (bonds_from bytes) (omega arith)

    pub text-lines :
        {per_bond : ℕ} → length atoms ≤ 127 → length rest ≡ per_bond * get_or head 4 0 → ThreeLines per_bond bytes
    text-lines {per_bond} most size =
        let same : mark_length bytes ≡ length atoms = mark-length-is in
        let three = text-length head counts atoms l.seven l.three in
        let all = ap length l.is ∙ length-append (text_of head counts atoms) rest in
        record {
          size = rw mark-bonds-is (omega arith);
          most = omega arith;
          head_kept = head-line.kept;
          head_ends = head-line.ends;
          counts-kept = counts-line.kept;
          counts_end = counts-line.ends;
          atoms-kept = third-line.kept;
          atoms_end = third-line.ends;
        }

-- ---- bytes whose three lines are kept are the text of their values, and what stands past it

pub layout-text :
    {per_bond : ℕ} (bytes : List ℕ) → ThreeLines per_bond bytes →
    bytes
    ≡ text_of (values_of 4 bytes 0 7) (values_of 20 bytes 29 3) (values_of 4 bytes 90 (mark_length bytes))
    ++ drop (bonds_from bytes) bytes
layout-text {per_bond} bytes f =
    let k = mark_length bytes in
    let first = line-split 4 bytes 0 7 29 refl (omega arith) f.head_kept f.head_ends in
    let second = line-split 20 bytes 29 3 90 refl (omega arith) f.counts-kept f.counts_end in
    let third = line-split 4 bytes 90 k (91 + 4 * k) (omega arith) (omega arith) f.atoms-kept f.atoms_end in
    first
    ∙ ap (λ l. fields_text 4 (values_of 4 bytes 0 7) ++ 10 ∷ l) second
    ∙ ap (λ l. fields_text 4 (values_of 4 bytes 0 7) ++ 10 ∷ (fields_text 20 (values_of 20 bytes 29 3) ++ 10 ∷ l)) third
    ∙ sym (simp append_assoc)
