-- Bond lines: their text reads back as its bonds, and bond lines that are kept to the end are the text of theirs.
-- Line by line; a bond line is a line of two fields.
use Prim.Native.Nat.{ℕ, zero, suc, ◌+◌, ◌*◌, ◌≤◌}
use native.Mathlib.Omega.{arith}
use mathlib.Core.Path.{◌≡◌, refl, ap, ap₂, sym, ◌∙◌}
use mathlib.Core.Bool.{true, ◌&&◌}
use mathlib.Core.List.{List, [], ◌∷◌, ◌++◌, append_assoc}
use lib.ListN.{length, get_or, drop, length-append, drop_of_length-le}
use borrow.Author.Tests.{eq-eqb, eqb-true}
use Rattle.graph.proofs.Below.{and_parts}
use Rattle.graph.proofs.All.{none, ◌◁◌}
use Rattle.molecule.specs.BondList.{Bond}
use Rattle.search.specs.Mark.{fields_text, bond_lines, value_at, fields_kept, is_feed, bond_lines_kept, bonds_at}
use Rattle.search.proofs.Text.{Fits, fields-length, Line, line_read, line-split}

-- the atoms of every bond fit their columns
pub data NarrowBonds : List Bond → Type 0 where
  no_bond : NarrowBonds []
  bond_fits : {x : Bond} {xs : List Bond} → Fits 4 x.0 → Fits 4 x.1 → NarrowBonds xs → NarrowBonds (x ∷ xs)

-- the first bond line, and then the others
first-line : (x : Bond) (xs : List Bond) → bond_lines (x ∷ xs) ≡ fields_text 4 (x.0 ∷ x.1 ∷ []) ++ 10 ∷ bond_lines xs
unfolding bond_lines
first-line x xs = append_assoc (fields_text 4 (x.0 ∷ x.1 ∷ [])) (10 ∷ []) (bond_lines xs)

-- A bond line is 9 bytes
pub bond-lines-length : (xs : List Bond) → length (bond_lines xs) ≡ 9 * length xs
bond-lines-length [] = unfold bond_lines in refl
bond-lines-length (x ∷ xs) =
    ap length (first-line x xs) ∙ simp (length-append, fields-length, bond-lines-length xs) (omega arith)

module _ (bytes : List ℕ) where
  pub bonds-at-length : (at k : ℕ) → length (bonds_at bytes at k) ≡ k
  unfolding bonds_at
  bonds-at-length at zero = refl
  bonds-at-length at (suc k) = ap suc (bonds-at-length (at + 9) k)

  -- what is read at the first of some bond lines
  first_read :
      (x : Bond) (xs : List Bond) (at : ℕ) → NarrowBonds (x ∷ xs) → drop at bytes ≡ bond_lines (x ∷ xs) →
      Line 4 bytes at 2 (x.0 ∷ x.1 ∷ []) (bond_lines xs)
  first_read x xs at (bond_fits a b fits) e = line_read (omega arith) (a ◁ b ◁ none) refl (e ∙ first-line x xs)

  -- Where the text of bonds stands, its lines are kept,
  pub bond-lines-keep :
      (xs : List Bond) (at : ℕ) → NarrowBonds xs → drop at bytes ≡ bond_lines xs →
      bond_lines_kept bytes at (length xs) ≡ true
  unfolding bond_lines_kept
  bond-lines-keep [] at fits e = refl
  bond-lines-keep (x ∷ xs) at (bond_fits a b fits) e =
      let line = first_read x xs at (bond_fits a b fits) e in
      rw (line.kept, eq-eqb (get_or bytes (at + 8) 0) 10 line.ends)
      (bond-lines-keep xs (at + 9) fits (line.past (at + 9) (omega arith)))

  -- and the bonds that they name are those bonds
  pub bonds-read :
      (xs : List Bond) (at : ℕ) → NarrowBonds xs → drop at bytes ≡ bond_lines xs → bonds_at bytes at (length xs) ≡ xs
  unfolding bonds_at
  bonds-read [] at fits e = refl
  bonds-read (x ∷ xs) at (bond_fits a b fits) e =
      let line = first_read x xs at (bond_fits a b fits) e in
      ap₂ (λ (y : Bond) (ys : List Bond). y ∷ ys) (ap (λ (l : List ℕ). (get_or l 0 0, get_or l 1 0)) line.values)
      (bonds-read xs (at + 9) fits (line.past (at + 9) (omega arith)))

  -- Bond lines that are kept to the end of the bytes are the text of the bonds that they name
  pub bond-lines-text :
      (at k : ℕ) → bond_lines_kept bytes at k ≡ true → length bytes ≡ at + 9 * k →
      drop at bytes ≡ bond_lines (bonds_at bytes at k)
  unfolding bond_lines_kept bonds_at
  bond-lines-text at zero e size =
      let past : length bytes ≤ at = omega arith in
      drop_of_length-le bytes past ∙ (unfold bond_lines in refl)
  bond-lines-text at (suc k) e size =
      let two = fields_kept 4 bytes at 2 in
      let (here, more) = and_parts (two && is_feed bytes (at + 8)) (bond_lines_kept bytes (at + 9) k) e in
      let (fields, feed) = and_parts two (is_feed bytes (at + 8)) here in
      let ends = eqb-true (get_or bytes (at + 8) 0) 10 feed in
      let first = line-split 4 bytes at 2 (at + 9) (omega arith) (omega arith) fields ends in
      let rest = bond-lines-text (at + 9) k more (omega arith) in
      first
      ∙ ap (λ l. fields_text 4 (value_at 4 bytes at ∷ value_at 4 bytes (at + 4) ∷ []) ++ 10 ∷ l) rest
      ∙ sym (first-line _ (bonds_at bytes (at + 9) k))
