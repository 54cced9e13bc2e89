-- The bonds of some cells of the rows from a cell on: those of i + j cells are those of the first i, and of the next j.
-- A cell has one where its bit is set above the diagonal; in a record that rule 9 allows no cell beyond n has one.
use Prim.Native.Nat.{ℕ, zero, suc, ◌+◌, ◌-◌, ◌*◌, ◌/◌, ◌%◌, ◌^◌, ◌≤◌, ◌<◌}
use native.Mathlib.Nat.{add-zero, zero-add, add-suc, zero-div}
use native.Mathlib.Numerals.{add-one}
use native.Mathlib.Omega.{arith}
use mathlib.Core.Path.{◌≡◌, refl, ap, sym, ◌∙◌}
use mathlib.Core.Bool.{Bool, true, false, ◌&&◌, cond}
use mathlib.Core.List.{List, [], ◌∷◌, ◌++◌, append_assoc, append-nil}
use lib.ListN.{length, get_or, length-append}
use lib.Dec.{eqb}
use borrow.Author.Tests.{eq-eqb, eqb-true, lt-ltb}
use Rattle.graph.proofs.Below.{and_both, false_of}
use Rattle.molecule.specs.Record.{cell, symmetric, loopless, within}
use Rattle.molecule.specs.BondList.{Bond, pair_of, bond_here, bonds_to, bond_list}
use Rattle.molecule.proofs.Rules.{Sound, sound-of-rules}
use Rattle.molecule.proofs.BondOrder.{here-parts}
use Rattle.molecule.proofs.BondLaws.{bonds-within}
use Rattle.bond_writer.specs.Parts.{bonds_between, cell_bonds, byte_bonds}

-- ---- some cells, and more

more-after :
    (here : Bool) (x : Bond) (xs ys : List Bond) →
    cond here (xs ++ ys ++ (x ∷ [])) (xs ++ ys) ≡ xs ++ cond here (ys ++ (x ∷ [])) ys
more-after true x xs ys = append_assoc xs ys (x ∷ [])
more-after false x xs ys = refl

module _ (rows : List ℕ) where
  pub between_split :
      (p i j : ℕ) → bonds_between rows p (i + j) ≡ bonds_between rows p i ++ bonds_between rows (p + i) j
  unfolding bonds_between
  between_split p i zero = rw add-zero (sym (append-nil (bonds_between rows p i)))
  between_split p i (suc j) =
      let same : p + (i + j) ≡ p + i + j = omega arith in
      let q = p + i + j in
      rw (add-suc, same, between_split p i j)
      (more-after (bond_here rows q) (pair_of q) (bonds_between rows p i) (bonds_between rows (p + i) j))

  -- fewer cells have no more bonds
  pub between-grows : (p i k : ℕ) → i ≤ k → length (bonds_between rows p i) ≤ length (bonds_between rows p k)
  between-grows p i k h =
      let all : i + (k - i) ≡ k = omega arith in
      let parts = rw (all, length-append) at (ap length (between_split p i (k - i))) in
      omega arith

  pub no_cells : (p : ℕ) → bonds_between rows p 0 ≡ []
  unfolding bonds_between
  no_cells p = refl

  -- cells that all have none
  between_none : (p k : ℕ) → ((j : ℕ) → j < k → bond_here rows (p + j) ≡ true → ⊥) → bonds_between rows p k ≡ []
  unfolding bonds_between
  between_none p zero f = refl
  between_none p (suc k) f =
      rw (false_of (bond_here rows (p + k)) (f k (omega arith))) (between_none p k (λ j h. f j (omega arith)))

  -- from the first cell on
  to-between : (k : ℕ) → bonds_to rows k ≡ bonds_between rows 0 k
  unfolding bonds_to bonds_between
  to-between zero = refl
  to-between (suc k) = rw (to-between k, zero-add k)

-- ---- bit k of a byte

module _ (rows : List ℕ) (at k : ℕ) (small : k < 8) where
  -- as the code reads it
  abbrev digit : ℕ
  digit = get_or rows at 0 / 2 ^ k % 2

  -- its cell, and the row and the column of that
  abbrev here : ℕ
  here = 8 * at + k

  here-row : here / 128 ≡ at / 16
  here-row = omega arith

  here-column : here % 128 ≡ at % 16 * 8 + k
  here-column = omega arith

  here-cell : cell rows (here / 128) (here % 128) ≡ eqb digit 1
  unfolding cell
  here-cell =
      let byte : 16 * (at / 16) + (at % 16 * 8 + k) / 8 ≡ at = omega arith in
      let bit : (at % 16 * 8 + k) % 8 ≡ k = omega arith in
      rw (here-row, here-column, byte, bit)

  here-set : bond_here rows here ≡ true → digit ≡ 1
  here-set e = eqb-true digit 1 (sym here-cell ∙ (here-parts rows here e).1)

  -- it is clear, or not above the diagonal
  cell-none : (bond_here rows here ≡ true → ⊥) → cell_bonds rows at k ≡ []
  unfolding bonds_between
  cell-none f = rw (add-zero here, false_of (bond_here rows here) f)

  pub clear-bond : (digit ≡ 1 → ⊥) → cell_bonds rows at k ≡ []
  clear-bond clear = cell-none (λ e. clear (here-set e))

  pub low-bond : at % 16 * 8 + k ≤ at / 16 → cell_bonds rows at k ≡ []
  low-bond low = cell-none (λ e. let above = (here-parts rows here e).0 in omega (arith, here-row, here-column))

  -- it is set, above the diagonal
  pub one-bond :
      digit ≡ 1 → at / 16 < at % 16 * 8 + k → cell_bonds rows at k ≡ (at / 16 + 1, at % 16 * 8 + k + 1) ∷ []
  unfolding bonds_between bond_here
  one-bond set above =
      let low = lt-ltb (here / 128) (here % 128) (omega (arith, here-row, here-column)) in
      let bond : bond_here rows here ≡ true = and_both _ _ low (here-cell ∙ eq-eqb digit 1 set) in
      rw (add-zero here, bond) (simp (add-one, ← here-row, ← here-column))

-- ---- cells without a bond

module _ (rows : List ℕ) where
  -- those of a byte that is 0
  pub empty-byte : (at : ℕ) → get_or rows at 0 ≡ 0 → byte_bonds rows at ≡ []
  empty-byte at none =
      between_none rows (8 * at) 8 (λ k small e.
      let set = here-set rows at k small e in
      let clear : get_or rows at 0 / 2 ^ k % 2 ≡ 0 = rw (none, zero-div (2 ^ k)) in
      omega arith)

  -- those of a row up to its diagonal
  pub low-cells : (row k : ℕ) → k ≤ row → k ≤ 128 → bonds_between rows (128 * row) k ≡ []
  low-cells row k low few =
      between_none rows (128 * row) k (λ j h e.
      let above = (here-parts rows (128 * row + j) e).0 in
      omega arith)

  -- those beyond n, of a row and of all rows
  module _ (n : ℕ) (sound : (symmetric rows && loopless rows && within n rows) ≡ true) where
    here-within : (p : ℕ) → p < 16384 → bond_here rows p ≡ true → (p / 128 < n) × (p % 128 < n)
    unfolding Sound
    here-within p h e =
        let m = sound-of-rules rows n sound (p / 128) (p % 128) (omega arith) (omega arith) (here-parts rows p e).1 in
        (m.row_within, m.column_within)

    pub columns-beyond :
        (row k j : ℕ) → row < n → n ≤ 128 → n ≤ k → k + j ≡ 128 → bonds_between rows (128 * row + k) j ≡ []
    columns-beyond row k j one few past all =
        between_none rows (128 * row + k) j (λ i h e.
        let inside = (here-within (128 * row + k + i) (omega arith) e).1 in
        omega arith)

    pub rows-beyond : n ≤ 128 → bonds_between rows 0 (128 * n) ≡ bond_list rows
    rows-beyond few =
        sym (to-between rows (128 * n)) ∙ bonds-within rows n few (sound-of-rules rows n sound)
