-- The loop that fills the rows, and rule 8: the rows of the bonds passed, none of which comes twice.
-- A bond is new exactly if its cell is clear (Tables).
use Rattle.std.specs.Prelude.{Ok, Result}
use Prim.Native.Nat.{ℕ, suc, ◌+◌, ◌-◌, ◌≤◌, ◌<◌}
use native.Mathlib.Omega.{arith}
use native.Mathlib.Numerals.{add-one}
use mathlib.Core.Path.{◌≡◌, refl, ap, sym, ◌∙◌}
use mathlib.Core.Bool.{Bool, true, false, not}
use mathlib.Core.List.{List}
use lib.ListN.{length, replicate}
use Rattle.graph.proofs.Loops.{all-fails, all_more}
use Rattle.molecule.specs.Record.{cell}
use Rattle.bonds.specs.Bonds.{Bond, atoms_kept, none_to_itself, none_twice, with_cell, with_bond, rows_of}
use Rattle.bonds.specs.Reading.{read_bonds}
use Rattle.bonds.proofs.Tables.{Kept, kept-fewer, tables, is_new, new-bond}
use Rattle.bonds.proofs.Answers.{bonds-read}
use Rattle.refusal.specs.declared.Refusal.{Refusal}
use Rattle.molecule.specs.declared.Molecule.{Molecule}

-- a record with given rows
abbrev pub filled_reading : ℕ → ℕ → List ℕ → Result Molecule Refusal
filled_reading n m rows = Ok (record { atoms = n; bonds = m; rows = rows })

-- the rows are those of the first k bonds, no two of which are the same
pub record Filled (bond : ℕ → Bond) (m k : ℕ) (rows : List ℕ) : Type 0 where
  pub most : k ≤ m
  pub rows_are : rows ≡ rows_of bond k
  pub none-twice : none_twice bond k ≡ true

pub filled_none : {bond : ℕ → Bond} {m : ℕ} → Filled bond m 0 (replicate 2048 0)
unfolding rows_of none_twice
filled_none = record { most = omega arith; rows_are = refl; none-twice = refl }

module _ {n : ℕ} {bond : ℕ → Bond} {m k : ℕ} {rows : List ℕ} (filled : Filled bond m k rows) where
  pub rows-size : Kept n bond m → length rows ≡ 2048
  rows-size kept = ap length filled.rows_are ∙ (tables k (kept-fewer filled.most kept)).bytes.size

  -- after the last bond
  pub filled-all :
      atoms_kept n bond m ≡ true → none_to_itself bond m ≡ true → m ≤ k → filled_reading n m rows ≡ read_bonds n bond m
  filled-all range apart last =
      let same : k ≡ m = omega (arith, filled.most) in
      let rows_all : rows ≡ rows_of bond m = rw same at filled.rows_are in
      ap (filled_reading n m) rows_all ∙ sym (bonds-read n bond m range apart (rw same at filled.none-twice))

-- the loop is at bond k, whose atoms are a and b
pub record AtBond (n : ℕ) (bond : ℕ → Bond) (m k : ℕ) (rows : List ℕ) (a b : ℕ) : Type 0 where
  pub kept : Kept n bond m
  pub filled : Filled bond m k rows
  pub more : k < m
  pub atoms : bond k ≡ (a, b)

row_step :
    (bond : ℕ → Bond) (k a b : ℕ) → bond k ≡ (a, b) →
    rows_of bond (suc k) ≡ with_cell (with_cell (rows_of bond k) (a - 1) (b - 1)) (b - 1) (a - 1)
unfolding rows_of with_bond
row_step bond k a b e = rw e

module _ {n : ℕ} {bond : ℕ → Bond} {m k : ℕ} {rows : List ℕ} {a b : ℕ} (here : AtBond n bond m k rows a b) where
  pub atom-range : (1 ≤ a) × (a ≤ 128) × (1 ≤ b) × (b ≤ 128)
  atom-range =
      let l = rw here.atoms at (here.kept.left k here.more) in
      let r = rw here.atoms at (here.kept.right k here.more) in
      omega (arith, l, r, here.kept.few)

  -- the bond is new exactly if its cell is clear
  new-by-cell : (set : Bool) → cell rows (a - 1) (b - 1) ≡ set → is_new bond k ≡ not set
  new-by-cell set e =
      new-bond k (kept-fewer here.more here.kept) ∙ rw (here.atoms, ← here.filled.rows_are) (ap not e)

  pub twice_found : cell rows (a - 1) (b - 1) ≡ true → none_twice bond m ≡ false
  unfolding none_twice
  twice_found e = all-fails m (is_new bond) k here.more (new-by-cell true e)

  twice-none : cell rows (a - 1) (b - 1) ≡ false → none_twice bond (k + 1) ≡ true
  unfolding none_twice
  twice-none e = all_more k (is_new bond) here.filled.none-twice (new-by-cell false e)

  -- one bond more
  pub filled_more :
      {one two : List ℕ} → cell rows (a - 1) (b - 1) ≡ false → one ≡ with_cell rows (a - 1) (b - 1) →
      two ≡ with_cell one (b - 1) (a - 1) → Filled bond m (k + 1) two
  filled_more {two = two} clear e f =
      record {
        most = omega (arith, here.more);
        rows_are = next ∙ sym (ap (rows_of bond) (add-one k));
        none-twice = twice-none clear;
      }
    where
      next : two ≡ rows_of bond (suc k)
      next = rw (f, e, here.filled.rows_are) (sym (row_step bond k a b here.atoms))
