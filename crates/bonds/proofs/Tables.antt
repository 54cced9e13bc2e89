-- The rows of listed bonds: a cell is set exactly when a bond joins its two atoms, and each bond adds two ones.
-- By induction on the number of bonds, from the laws of one cell.
use Prim.Native.Nat.{ℕ, zero, suc, ◌+◌, ◌-◌, ◌*◌, ◌/◌, ◌%◌, ◌^◌, ◌≤◌, ◌<◌}
use native.Mathlib.Nat.{zero-div, eq-or-lt_of_le}
use native.Mathlib.Omega.{arith}
use mathlib.Core.Path.{◌≡◌, refl, ap, sym, ◌∙◌}
use mathlib.Core.Bool.{Bool, true, false, ◌&&◌, ◌||◌, not, or-true, or_comm, and_comm, or_assoc}
use mathlib.Core.List.{List}
use mathlib.Core.Logic.{◌⊎◌, inl, inr, ⊎_elim, ◌↔◌}
use lib.ListN.{get_or, replicate, length-replicate}
use lib.Dec.{eqb, eqb-suc-suc}
use lib.Count.{ones}
use borrow.Author.Tests.{ne_eqb, eqb-false, not-true}
use Rattle.graph.specs.Every.{all_below}
use Rattle.graph.proofs.Below.{clash, false_of, either, and_left, and_right, and_parts, same_test, not-of, all_below-at, all_below-of}
use Rattle.graph.proofs.Places.{zeros-at}
use Rattle.molecule.specs.Record.{cell, is_atom, ones_of}
use Rattle.molecule.proofs.Bonds.{atom-bounds}
use Rattle.bonds.specs.Bonds.{Bond, atoms_kept, none_to_itself, same_pair, none_twice, with_cell, with_bond, rows_of}
use Rattle.bonds.proofs.Stored.{within, differs, atoms-kept-is, none-to-itself-is}
use Rattle.bonds.proofs.Cells.{Rows, with_cell_lem, with_rows, with-cell-ones}

-- bonds that keep rules 6 and 7
pub record Kept (n : ℕ) (bond : ℕ → Bond) (m : ℕ) : Type 0 where
  pub few : n ≤ 128
  pub left : (k : ℕ) → k < m → (1 ≤ (bond k).0) × ((bond k).0 ≤ n)
  pub right : (k : ℕ) → k < m → (1 ≤ (bond k).1) × ((bond k).1 ≤ n)
  pub apart : (k : ℕ) → k < m → (bond k).0 ≡ (bond k).1 → ⊥

pub kept_of :
    {n : ℕ} {bond : ℕ → Bond} {m : ℕ} → n ≤ 128 → atoms_kept n bond m ≡ true → none_to_itself bond m ≡ true →
    Kept n bond m
unfolding within differs
kept_of {n} {bond} {m} few atoms differ =
    record {
      few = few;
      left = λ k h. atom-bounds n (bond k).0 (and_left (is_atom n (bond k).0) (is_atom n (bond k).1) (in-range k h));
      right = λ k h. atom-bounds n (bond k).1 (and_right (is_atom n (bond k).0) (is_atom n (bond k).1) (in-range k h));
      apart = λ k h. eqb-false (bond k).0 (bond k).1 (not-true (eqb (bond k).0 (bond k).1) (differ-at k h));
    }
  where
    in-range : (k : ℕ) → k < m → within n bond k ≡ true
    in-range = all_below-at m (within n bond) (sym (atoms-kept-is n bond m) ∙ atoms)

    differ-at : (k : ℕ) → k < m → differs bond k ≡ true
    differ-at = all_below-at m (differs bond) (sym (none-to-itself-is bond m) ∙ differ)

pub kept-fewer : {n : ℕ} {bond : ℕ → Bond} {k m : ℕ} → k ≤ m → Kept n bond m → Kept n bond k
kept-fewer h kept =
    record {
      few = kept.few;
      left = λ q l. kept.left q (omega arith);
      right = λ q l. kept.right q (omega arith);
      apart = λ q l. kept.apart q (omega arith);
    }

-- bond k joins other atoms than each bond before it
abbrev pub is_new : (ℕ → Bond) → ℕ → Bool
is_new bond k = all_below k (λ j. not (same_pair (bond j) (bond k)))

-- some of the first k bonds joins a and b
unfoldable pub Joins : (ℕ → Bond) → ℕ → ℕ → ℕ → Type 0
Joins bond k a b = (q : ℕ) × (q < k) × (same_pair (bond q) (a, b) ≡ true)

same-pair-swaps : (x : Bond) (a b : ℕ) → same_pair x (a, b) ≡ same_pair x (b, a)
unfolding same_pair
same-pair-swaps x a b = or_comm (eqb x.0 a && eqb x.1 b) (eqb x.0 b && eqb x.1 a)

pub joins-swaps : (bond : ℕ → Bond) (k a b : ℕ) → Joins bond k a b → Joins bond k b a
unfolding Joins
joins-swaps bond k a b (q, h, e) = (q, h, sym (same-pair-swaps (bond q) a b) ∙ e)

joins-more : (bond : ℕ → Bond) (k a b : ℕ) → Joins bond k a b → Joins bond (suc k) a b
unfolding Joins
joins-more bond k a b (q, h, e) = (q, omega arith, e)

-- ---- no bonds

ones-zero : ones 0 ≡ 0
unfolding ones
ones-zero = refl

zero-ones : (k : ℕ) → ones_of (replicate k 0) ≡ 0
unfolding ones_of
zero-ones zero = refl
zero-ones (suc k) = rw (zero-ones k, ones-zero)

-- what holds of the rows of the first k bonds
pub record Table (bond : ℕ → Bond) (k : ℕ) (rows : List ℕ) : Type 0 where
  pub bytes : Rows rows
  pub cells : (i j : ℕ) → i < 128 → j < 128 → (cell rows i j ≡ true) ↔ Joins bond k (suc i) (suc j)
  pub ones_count : none_twice bond k ≡ true → ones_of rows ≡ 2 * k

zeros-table : (bond : ℕ → Bond) (size : ℕ) → size ≡ 2048 → Table bond 0 (replicate size 0)
unfolding cell Joins
zeros-table bond size e =
    record {
      bytes = record { size = length-replicate {A = ℕ} size 0 ∙ e; byte = λ at. rw (zeros-at size at) (omega arith) };
      cells =
          λ i j hi hj. (
            λ (t : cell (replicate size 0) i j ≡ true). absurd (clash (cell (replicate size 0) i j) t (clear i j)),
            λ (joins : Joins bond 0 (suc i) (suc j)). absurd (none joins.1),
          );
      ones_count = λ d. zero-ones size;
    }
  where
    none : {q : ℕ} → q < 0 → ⊥
    none h = omega arith

    never : 0 % 2 ≡ 1 → ⊥
    never h = omega arith

    clear : (i j : ℕ) → cell (replicate size 0) i j ≡ false
    clear i j =
        let there = 16 * i + j / 8 in
        ne_eqb (get_or (replicate size 0) there 0 / 2 ^ (j % 8) % 2) 1
        (λ e. absurd (never (rw (zeros-at size there, zero-div (2 ^ (j % 8))) at e)))

-- ---- one bond more

-- the two atoms of a bond, counted from 0 as rows and columns are
abbrev pub left_of : Bond → ℕ
left_of x = x.0 - 1

abbrev pub right_of : Bond → ℕ
right_of x = x.1 - 1

before-suc : (x i : ℕ) → 1 ≤ x → eqb (x - 1) i ≡ eqb x (suc i)
before-suc x i h =
    let back : x ≡ suc (x - 1) = omega arith in
    sym (ap (λ y. eqb y (suc i)) back ∙ eqb-suc-suc (x - 1) i)

module _ {n : ℕ} {bond : ℕ → Bond} {k : ℕ} {rows : List ℕ} (kept : Kept n bond (suc k))
    (table : Table bond k rows) where
  low_left : 1 ≤ (bond k).0
  low_left = (kept.left k (omega arith)).0

  low_right : 1 ≤ (bond k).1
  low_right = (kept.right k (omega arith)).0

  left-fits : left_of (bond k) < 128
  left-fits = let l = kept.left k (omega arith) in let f = kept.few in omega arith

  right-fits : right_of (bond k) < 128
  right-fits = let r = kept.right k (omega arith) in let f = kept.few in omega arith

  -- the cell of the bond, set or clear
  abbrev here : Bool
  here = cell rows (left_of (bond k)) (right_of (bond k))

  -- the rows with this cell set; the mirrored cell comes next
  abbrev one : List ℕ
  one = with_cell rows (left_of (bond k)) (right_of (bond k))

  one-rows : Rows one
  one-rows = with_rows table.bytes left-fits right-fits

  -- the cells: those that were set, and those of the new bond
  cell-more :
      {i j : ℕ} → i < 128 → j < 128 →
      cell (with_bond rows (bond k)) i j ≡ cell rows i j || same_pair (bond k) (suc i, suc j)
  unfolding with_bond same_pair
  cell-more {i} {j} hi hj =
      let first = with_cell_lem table.bytes left-fits right-fits hi hj in
      let second = with_cell_lem one-rows right-fits left-fits hi hj in
      let there = eqb (bond k).0 (suc i) && eqb (bond k).1 (suc j) in
      let mirrored = eqb (bond k).0 (suc j) && eqb (bond k).1 (suc i) in
      second ∙ rw (
        first,
        before-suc (bond k).0 i low_left,
        before-suc (bond k).1 j low_right,
        before-suc (bond k).1 i low_right,
        before-suc (bond k).0 j low_left,
        and_comm (eqb (bond k).1 (suc i)) (eqb (bond k).0 (suc j)),
      ) (or_assoc (cell rows i j) there mirrored)

  cells-more :
      (i j : ℕ) → i < 128 → j < 128 →
      (cell (with_bond rows (bond k)) i j ≡ true) ↔ Joins bond (suc k) (suc i) (suc j)
  unfolding Joins
  cells-more i j hi hj = (there, back)
    where
      there : cell (with_bond rows (bond k)) i j ≡ true → Joins bond (suc k) (suc i) (suc j)
      there e = go (either (cell rows i j)) (either (same_pair (bond k) (suc i, suc j)))
        where
          go :
              (cell rows i j ≡ true) ⊎ (cell rows i j ≡ false) →
              (same_pair (bond k) (suc i, suc j) ≡ true) ⊎ (same_pair (bond k) (suc i, suc j) ≡ false) →
              Joins bond (suc k) (suc i) (suc j)
          go (inl old) y = joins-more bond k (suc i) (suc j) ((table.cells i j hi hj).0 old)
          go (inr f) (inl new) = (k, omega arith, new)
          go (inr f) (inr g) = absurd (clash (cell (with_bond rows (bond k)) i j) e (cell-more hi hj ∙ rw (f, g)))

      back : Joins bond (suc k) (suc i) (suc j) → cell (with_bond rows (bond k)) i j ≡ true
      back (q, h, e) =
          cell-more hi hj ∙ ⊎_elim
          (λ (new : q ≡ k). last new)
          (λ (old : q < k). rw ((table.cells i j hi hj).1 (q, old, e)))
          (eq-or-lt_of_le (omega arith))
        where
          last : q ≡ k → cell rows i j || same_pair (bond k) (suc i, suc j) ≡ true
          last p = rw (← p, e) (or-true (cell rows i j))

  -- no earlier bond joins the same atoms exactly when the cell is clear
  bond-new : is_new bond k ≡ not here
  unfolding Joins
  bond-new = same_test (is_new bond k) (not here) there back
    where
      up_left : suc (left_of (bond k)) ≡ (bond k).0
      up_left = let low = low_left in omega arith

      up_right : suc (right_of (bond k)) ≡ (bond k).1
      up_right = let low = low_right in omega arith

      there : is_new bond k ≡ true → not here ≡ true
      there new = not-of here (false_of here (λ t. met ((table.cells _ _ left-fits right-fits).0 t)))
        where
          met : Joins bond k (suc (left_of (bond k))) (suc (right_of (bond k))) → ⊥
          met (q, h, e) =
              let same : same_pair (bond q) ((bond k).0, (bond k).1) ≡ true = rw (up_left, up_right) at e in
              let other = all_below-at k (λ j. not (same_pair (bond j) (bond k))) new q h in
              clash (same_pair (bond q) (bond k)) same (not-true (same_pair (bond q) (bond k)) other)

      back : not here ≡ true → is_new bond k ≡ true
      back clear =
          all_below-of k (λ j. not (same_pair (bond j) (bond k)))
          (λ j h. not-of (same_pair (bond j) (bond k)) (other j h))
        where
          other : (j : ℕ) → j < k → same_pair (bond j) (bond k) ≡ false
          other j h = false_of (same_pair (bond j) (bond k)) (λ same. clash here (set same) (not-true here clear))
            where
              set : same_pair (bond j) (bond k) ≡ true → here ≡ true
              set same = (table.cells _ _ left-fits right-fits).1 (j, h, rw (up_left, up_right) same)

  -- two ones more
  mirror-clear : here ≡ false → cell one (right_of (bond k)) (left_of (bond k)) ≡ false
  mirror-clear clear =
      with_cell_lem table.bytes left-fits right-fits right-fits left-fits
      ∙ rw (image, ne_eqb (left_of (bond k)) (right_of (bond k)) differ)
    where
      differ : left_of (bond k) ≡ right_of (bond k) → ⊥
      differ same =
          let l = low_left in
          let r = low_right in
          kept.apart k (omega arith) (omega arith)

      -- the mirrored cell joins the same atoms
      back : cell rows (right_of (bond k)) (left_of (bond k)) ≡ true → here ≡ true
      back t =
          (table.cells _ _ left-fits right-fits).1
          (joins-swaps bond k _ _ ((table.cells _ _ right-fits left-fits).0 t))

      image : cell rows (right_of (bond k)) (left_of (bond k)) ≡ false
      image = false_of (cell rows (right_of (bond k)) (left_of (bond k))) (λ t. clash here (back t) clear)

  ones-more : none_twice bond (suc k) ≡ true → ones_of (with_bond rows (bond k)) ≡ 2 * suc k
  unfolding none_twice with_bond
  ones-more e =
      let parts = and_parts (none_twice bond k) (is_new bond k) e in
      let clear = not-true here (sym bond-new ∙ parts.1) in
      let first = with-cell-ones table.bytes left-fits right-fits clear in
      let second = with-cell-ones one-rows right-fits left-fits (mirror-clear clear) in
      let before = table.ones_count parts.0 in
      omega (arith, first, second, before)

  table_more : Table bond (suc k) (with_bond rows (bond k))
  unfolding with_bond
  table_more =
      record { bytes = with_rows one-rows right-fits left-fits; cells = cells-more; ones_count = ones-more }

-- The rows of bonds that keep rules 6 and 7
pub tables : {n : ℕ} {bond : ℕ → Bond} (m : ℕ) → Kept n bond m → Table bond m (rows_of bond m)
unfolding rows_of
tables {bond = bond} zero kept = zeros-table bond 2048 refl
tables (suc m) kept = table_more kept (tables m (kept-fewer (omega arith) kept))

-- a new bond, by the cell that the code looks at
pub new-bond :
    {n : ℕ} {bond : ℕ → Bond} (k : ℕ) → Kept n bond (suc k) →
    is_new bond k ≡ not (cell (rows_of bond k) (left_of (bond k)) (right_of (bond k)))
new-bond k kept = bond-new kept (tables k (kept-fewer (omega arith) kept))
