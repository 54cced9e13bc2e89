-- Rows with one cell set: which cells they have, how many ones, and that they are still 2,048 bytes.
-- Two cells are the same bit of the same byte exactly when their rows and columns are equal.
use Prim.Native.Nat.{ℕ, zero, suc, ◌+◌, ◌*◌, ◌/◌, ◌%◌, ◌^◌, ◌<◌}
use native.Mathlib.Decide.{ℕ_discrete}
use native.Mathlib.Omega.{arith}
use mathlib.Core.Path.{◌≡◌, ap, ap₂, sym, ◌∙◌}
use mathlib.Core.Bool.{false, ◌&&◌, ◌||◌, or-false, and-false}
use mathlib.Core.List.{List, [], ◌∷◌}
use lib.ListN.{length, get_or, set, length-set}
use lib.Seq.{get_or-set_same, get_or-set_other}
use Rattle.std.specs.Int.Bits.{bit_or}
use lib.Dec.{eqb}
use lib.Count.{ones}
use borrow.Author.Tests.{eq-eqb, ne_eqb}
use Rattle.molecule.specs.Record.{bit, cell, ones_of}
pub use Rattle.molecule.proofs.Rules.{Rows}
use Rattle.bonds.specs.Bonds.{with_bit, with_cell}
use Rattle.bonds.proofs.Bits.{with-bit, with-ones, with-below, or-sets}

-- the place of a cell's byte, and the byte
abbrev place : ℕ → ℕ → ℕ
place i j = 16 * i + j / 8

abbrev byte_of : List ℕ → ℕ → ℕ → ℕ
byte_of rows i j = get_or rows (place i j) 0

-- what the code stores, as the definition has it
pub cell_set :
    (rows : List ℕ) (i j : ℕ) →
    set rows (place i j) (bit_or (byte_of rows i j) (1 * 2 ^ (j % 8) % 256)) ≡ with_cell rows i j
unfolding with_cell
cell_set rows i j = ap (set rows (place i j)) (or-sets (byte_of rows i j) (j % 8) (omega arith))

-- the byte of a cell with its bit set, and the rows with that byte
abbrev set_byte : List ℕ → ℕ → ℕ → ℕ
set_byte rows i j = with_bit (byte_of rows i j) (j % 8)

abbrev set_rows : List ℕ → ℕ → ℕ → List ℕ
set_rows rows i j = set rows (place i j) (set_byte rows i j)

-- the ones of a list with one byte changed
ones-set : (xs : List ℕ) (i y : ℕ) → i < length xs → ones_of (set xs i y) + ones (get_or xs i 0) ≡ ones_of xs + ones y
unfolding ones_of
ones-set [] i y h = absurd (omega arith)
ones-set (x ∷ xs) zero y h = omega arith
ones-set (x ∷ xs) (suc i) y h = let more = ones-set xs i y (omega arith) in omega arith

-- Rows with one cell set
module _ {rows : List ℕ} (ok : Rows rows) {i j : ℕ} (hi : i < 128) (hj : j < 128) where
  inside : place i j < length rows
  inside = let size = ok.size in omega arith

  -- the cells: those that were set, and the one
  module _ {i' j' : ℕ} (hi' : i' < 128) (hj' : j' < 128) where
    same_byte :
        place i' j' ≡ place i j →
        bit (byte_of (set_rows rows i j) i' j') (j' % 8) ≡ bit (byte_of rows i' j') (j' % 8) || eqb i i' && eqb j j'
    same_byte e =
        let row : i ≡ i' = omega arith in
        rw (
          e,
          get_or-set_same rows (place i j) (set_byte rows i j) 0 inside,
          with-bit (j % 8) (byte_of rows i j) (j' % 8),
          eq-eqb i i' row,
        )
        (ap (λ t. bit (byte_of rows i j) (j' % 8) || t) (columns (ℕ_discrete j j')))
      where
        columns : Dec (j ≡ j') → eqb (j % 8) (j' % 8) ≡ eqb j j'
        columns (yes q) = eq-eqb (j % 8) (j' % 8) (ap (λ c. c % 8) q) ∙ sym (eq-eqb j j' q)
        columns (no q) = ne_eqb (j % 8) (j' % 8) (λ f. q (omega arith)) ∙ sym (ne_eqb j j' q)

    other_byte :
        (place i' j' ≡ place i j → ⊥) →
        bit (byte_of (set_rows rows i j) i' j') (j' % 8) ≡ bit (byte_of rows i' j') (j' % 8) || eqb i i' && eqb j j'
    other_byte n =
        rw (
          get_or-set_other rows (place i j) (place i' j') (set_byte rows i j) 0 n,
          apart (ℕ_discrete i i') (ℕ_discrete j j'),
          or-false (bit (byte_of rows i' j') (j' % 8)),
        )
      where
        apart : Dec (i ≡ i') → Dec (j ≡ j') → (eqb i i' && eqb j j') ≡ false
        apart (yes p) (yes q) = absurd (n (ap₂ place (sym p) (sym q)))
        apart (yes p) (no q) = rw (ne_eqb j j' q) (and-false (eqb i i'))
        apart (no p) d = rw (ne_eqb i i' p)

    pub with_cell_lem : cell (with_cell rows i j) i' j' ≡ cell rows i' j' || eqb i i' && eqb j j'
    unfolding cell with_cell
    with_cell_lem = elim (ℕ_discrete (place i' j') (place i j)) [
      | yes e ↦ same_byte e
      | no n ↦ other_byte n
    ]

  -- they are 2,048 bytes
  pub with_rows : Rows (with_cell rows i j)
  unfolding with_cell
  with_rows = record { size = length-set rows (place i j) (set_byte rows i j) ∙ ok.size; byte = bytes }
    where
      bytes : (k : ℕ) → get_or (set_rows rows i j) k 0 < 256
      bytes k = go (ℕ_discrete k (place i j))
        where
          go : Dec (k ≡ place i j) → get_or (set_rows rows i j) k 0 < 256
          go (yes e) =
              let small = with-below 8 (j % 8) (byte_of rows i j) (omega arith) (ok.byte (place i j)) in
              rw (e, get_or-set_same rows (place i j) (set_byte rows i j) 0 inside) small
          go (no n) = rw (get_or-set_other rows (place i j) k (set_byte rows i j) 0 n) (ok.byte k)

  -- one more one where the cell was clear
  pub with-cell-ones : cell rows i j ≡ false → ones_of (with_cell rows i j) ≡ suc (ones_of rows)
  unfolding cell with_cell
  with-cell-ones clear =
      let change = ones-set rows (place i j) (set_byte rows i j) inside in
      let more = with-ones (j % 8) (byte_of rows i j) clear in
      omega (arith, change, more)
