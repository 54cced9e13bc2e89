-- The ones of a row are as many as the neighbours of its atom, and the list of the bonds of a record that rule 9 allows
-- has m bonds: half of all ones. They are summed row by row, bit by bit, so cell by cell; each cell has a mirror image.
use Prim.Native.Nat.{ℕ, zero, suc, ◌+◌, ◌*◌, ◌/◌, ◌%◌, ◌<◌}
use native.Mathlib.Decide.{dec_lt}
use native.Mathlib.Omega.{arith}
use mathlib.Core.Path.{◌≡◌, refl, ap, sym, ◌∙◌}
use mathlib.Core.Bool.{Bool, true, false, ◌&&◌, cond}
use mathlib.Core.List.{List, [], ◌∷◌, ◌++◌}
use lib.ListN.{length, get_or, take, drop, length-append, length-drop}
use lib.Seq.{get_or-take, get_or-drop, length-take-le}
use lib.Dec.{ltb}
use lib.Count.{ones}
use borrow.Author.Tests.{lt-ltb, le-ltb, eqb-true}
use Rattle.graph.proofs.Below.{false_of, same_test}
use Rattle.graph.proofs.Sums.{sum, sum_same, sum_first, sum_rows, sum-grid, sum-mirror}
use Rattle.molecule.specs.declared.Molecule.{Molecule}
use Rattle.molecule.specs.Record.{bit, cell, ones_of, neighbours, well_formed}
use Rattle.molecule.specs.BondList.{pair_of, bond_here, bonds_to, bond_list}
use Rattle.molecule.proofs.Rules.{Rows, Sound, sound-of-rules}
use Rattle.molecule.proofs.Bonds.{rule9}
use Rattle.molecule.proofs.Bits.{number, ones-bits}

-- ---- the ones of rows, cell by cell

ones-bytes : (xs : List ℕ) → ones_of xs ≡ sum (length xs) (λ at. ones (get_or xs at 0))
unfolding ones_of sum
ones-bytes [] = refl
ones-bytes (x ∷ xs) =
    ap (λ s. ones x + s) (ones-bytes xs) ∙ sym (sum_first (length xs) (λ at. ones (get_or (x ∷ xs) at 0)))

module _ (rows : List ℕ) where
  -- a set cell, and one above the diagonal, as numbers
  abbrev set : ℕ → ℕ → ℕ
  set i j = number (cell rows i j)

  abbrev up : ℕ → ℕ → ℕ
  up i j = number (ltb i j && cell rows i j)

  -- the ones of byte at, and its bit k as a number
  abbrev ones_at : ℕ → ℕ
  ones_at at = ones (get_or rows at 0)

  abbrev bit_of : ℕ → ℕ → ℕ
  bit_of at k = number (bit (get_or rows at 0) k)

  row-bit : (i at k : ℕ) → k < 8 → bit_of (i * 16 + at) k ≡ set i (at * 8 + k)
  unfolding cell
  row-bit i at k h =
      let same_byte : 16 * i + (at * 8 + k) / 8 ≡ i * 16 + at = omega arith in
      let same_bit : (at * 8 + k) % 8 ≡ k = omega arith in
      rw (same_byte, same_bit)

  module _ (bytes : Rows rows) where
    -- the 16 bytes of a row
    row-cells : (i : ℕ) → sum 16 (λ at. ones_at (i * 16 + at)) ≡ sum 128 (set i)
    row-cells i =
        let bits = sum_same 16 (λ at. ones_at (i * 16 + at)) _ (λ at h. byte-bits (i * 16 + at)) in
        let cells =
        sum-grid 16 8 (λ at. bit_of (i * 16 + at)) (λ at k. set i (at * 8 + k)) (λ at k h. row-bit i at k) in
        bits ∙ cells ∙ sym (sum_rows 16 8 (set i))
      where
        byte-bits : (at : ℕ) → ones_at at ≡ sum 8 (bit_of at)
        byte-bits at = ones-bits 8 (get_or rows at 0) (bytes.byte at)

    ones-cells : ones_of rows ≡ sum 128 (λ i. sum 128 (set i))
    ones-cells =
        let all = ap (λ k. sum k ones_at) bytes.size in
        let cells = sum_same 128 (λ i. sum 16 (λ at. ones_at (i * 16 + at))) _ (λ i h. row-cells i) in
        ones-bytes rows ∙ all ∙ sum_rows 128 16 ones_at ∙ cells

    -- The one bits of a row are as many as the atoms bonded to its atom
    pub neighbours-counted : (i : ℕ) → i < 128 → neighbours rows i ≡ sum 128 (λ j. number (cell rows i j))
    unfolding neighbours
    neighbours-counted i h =
        let all = ap (λ k. sum k (λ at. ones (get_or row at 0))) size in
        let here = sum_same 16 (λ at. ones (get_or row at 0)) _ (λ at l. ap ones (byte at l)) in
        ones-bytes row ∙ all ∙ here ∙ row-cells i
      where
        row : List ℕ
        row = take 16 (drop (16 * i) rows)

        size : length row ≡ 16
        size =
            let whole = bytes.size in
            let rest = length-drop (16 * i) rows in
            length-take-le 16 (drop (16 * i) rows) (omega arith)

        byte : (at : ℕ) → at < 16 → get_or row at 0 ≡ get_or rows (i * 16 + at) 0
        byte at l =
            let place : 16 * i + at ≡ i * 16 + at = omega arith in
            get_or-take 16 (drop (16 * i) rows) at 0 l ∙ get_or-drop (16 * i) rows at 0 ∙ rw place

    -- and those of all rows together
    pub ones-neighbours : ones_of rows ≡ sum 128 (neighbours rows)
    ones-neighbours =
        ones-cells ∙ sum_same 128 (λ i. sum 128 (set i)) (neighbours rows) (λ i h. sym (neighbours-counted i h))

  -- by places, and by rows and columns
  places : (f : ℕ → ℕ → ℕ) → sum 16384 (λ p. f (p / 128) (p % 128)) ≡ sum 128 (λ i. sum 128 (f i))
  places f =
      sum_rows 128 128 (λ p. f (p / 128) (p % 128))
      ∙ sum-grid 128 128 (λ i j. f ((i * 128 + j) / 128) ((i * 128 + j) % 128)) f here
    where
      here : (i j : ℕ) → i < 128 → j < 128 → f ((i * 128 + j) / 128) ((i * 128 + j) % 128) ≡ f i j
      here i j hi hj =
          let row : (i * 128 + j) / 128 ≡ i = omega arith in
          let column : (i * 128 + j) % 128 ≡ j = omega arith in
          rw (row, column)

  -- ---- two for each bond

  -- a set cell is above the diagonal, or its mirror image is
  cell-sides : (n : ℕ) → Sound rows n → (i j : ℕ) → i < 128 → j < 128 → set i j ≡ up i j + up j i
  unfolding Sound
  cell-sides n sound i j hi hj = go (dec_lt i j) (dec_lt j i)
    where
      image : cell rows i j ≡ cell rows j i
      image =
          same_test (cell rows i j) (cell rows j i) (λ e. (sound i j hi hj e).image) (λ e. (sound j i hj hi e).image)

      go : Dec (i < j) → Dec (j < i) → set i j ≡ up i j + up j i
      go (yes less) d = rw (lt-ltb i j less, le-ltb j i (omega arith)) (omega arith)
      go (no more) (yes less) = rw (lt-ltb j i less, le-ltb i j (omega arith), image) (omega arith)
      go (no more) (no less) =
          let same : i ≡ j = omega arith in
          let clear = false_of (cell rows i j) (λ e. (sound i j hi hj e).off_diagonal same) in
          rw (le-ltb i j (omega arith), le-ltb j i (omega arith), clear)

  -- the bonds of the first k cells
  bonds-below : (k : ℕ) → length (bonds_to rows k) ≡ sum k (λ p. number (bond_here rows p))
  unfolding bonds_to sum
  bonds-below zero = refl
  bonds-below (suc k) = go (bonds-below k) (bond_here rows k)
    where
      go :
          length (bonds_to rows k) ≡ sum k (λ p. number (bond_here rows p)) → (t : Bool) →
          length (cond t (bonds_to rows k ++ (pair_of k ∷ [])) (bonds_to rows k)) ≡
          sum k (λ p. number (bond_here rows p)) + number t
      go less true = let more = length-append (bonds_to rows k) (pair_of k ∷ []) in omega (arith, more)
      go less false = omega (arith, less)

  -- The ones of rows are twice their bonds
  pub ones-twice : (n : ℕ) → Rows rows → Sound rows n → ones_of rows ≡ 2 * length (bond_list rows)
  unfolding bond_list bond_here
  ones-twice n bytes sound =
      let sides = sum-grid 128 128 set (λ i j. up i j + up j i) (cell-sides n sound) in
      let twice = sum-mirror 128 up in
      let listed = bonds-below 16384 ∙ places up in
      ones-cells bytes ∙ sides ∙ twice ∙ ap (λ k. 2 * k) (sym listed)

-- A record that rule 9 allows has m of them
pub bonds-count :
    (mol : Molecule) → well_formed mol ≡ true → length (bond_list mol.rows) ≡ mol.bonds
bonds-count mol formed =
    let rule = rule9 mol formed in
    let sound = sound-of-rules mol.rows mol.atoms rule.rows-sound in
    let twice = ones-twice mol.rows mol.atoms rule.bytes sound in
    let count = eqb-true (ones_of mol.rows) (2 * mol.bonds) rule.ones_count in
    omega (arith, twice, count)
