-- Bonds as they are listed, the rules on them (6, 7, 8), and the
-- rows that hold them. Bond k, counted from 0, is a pair of atoms.
use Rattle.std.specs.Prelude.{ℕ, zero, suc, ◌+◌, ◌-◌, ◌*◌, ◌/◌, ◌%◌, ◌^◌, Bool, ◌&&◌, ◌||◌, not, cond, List, get_or, set, replicate, eqb}
use Rattle.graph.specs.Every.{all_below}
use Rattle.molecule.specs.Record.{bit, is_atom}
pub use Rattle.molecule.specs.BondList.{Bond}

-- Rule 6 kept by the first m bonds: both atoms are from 1 to n
unfoldable pub atoms_kept : ℕ → (ℕ → Bond) → ℕ → Bool
atoms_kept n bond m = all_below m (λ k. is_atom n (bond k).0 && is_atom n (bond k).1)

-- Rule 7 kept: no bond joins an atom to itself
unfoldable pub none_to_itself : (ℕ → Bond) → ℕ → Bool
none_to_itself bond m = all_below m (λ k. not (eqb (bond k).0 (bond k).1))

-- two bonds join the same two atoms, in either order
unfoldable pub same_pair : Bond → Bond → Bool
same_pair x y = eqb x.0 y.0 && eqb x.1 y.1 || eqb x.0 y.1 && eqb x.1 y.0

-- Rule 8 kept: no two bonds join the same two atoms
unfoldable pub none_twice : (ℕ → Bond) → ℕ → Bool
none_twice bond m = all_below m (λ k. all_below k (λ j. not (same_pair (bond j) (bond k))))

-- a byte with bit k set
unfoldable pub with_bit : ℕ → ℕ → ℕ
with_bit x k = cond (bit x k) x (x + 2 ^ k)

-- rows with the bit of row i and column j set, both counted from 0
unfoldable pub with_cell : List ℕ → ℕ → ℕ → List ℕ
with_cell rows i j = set rows (16 * i + j / 8) (with_bit (get_or rows (16 * i + j / 8) 0) (j % 8))

-- rows with a bond, both ways
unfoldable pub with_bond : List ℕ → Bond → List ℕ
with_bond rows x = with_cell (with_cell rows (x.0 - 1) (x.1 - 1)) (x.1 - 1) (x.0 - 1)

-- The rows of the first m bonds
unfoldable pub rows_of : (ℕ → Bond) → ℕ → List ℕ
rows_of bond zero = replicate 2048 0
rows_of bond (suc m) = with_bond (rows_of bond m) (bond m)
