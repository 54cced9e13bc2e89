-- The bonds of a record as a list (document 02, F-5): from its rows alone, lower atom first, in dictionary order.
use Rattle.std.specs.Prelude.{ℕ, zero, suc, ◌/◌, ◌%◌, Bool, true, false, ◌&&◌, ◌||◌, cond, List, [], ◌∷◌, ◌++◌, ltb, eqb}
use Rattle.molecule.specs.Record.{cell}

-- A bond: its two atoms
abbrev pub Bond : Type 0
Bond = ℕ × ℕ

-- cell p of the rows, counted row by row from 0: its two atoms
abbrev pub pair_of : ℕ → Bond
pair_of p = (suc (p / 128), suc (p % 128))

-- its bit is set, and its lower atom comes first
unfoldable pub bond_here : List ℕ → ℕ → Bool
bond_here rows p = ltb (p / 128) (p % 128) && cell rows (p / 128) (p % 128)

-- the bonds of the first k cells
unfoldable pub bonds_to : List ℕ → ℕ → List Bond
bonds_to rows zero = []
bonds_to rows (suc k) = cond (bond_here rows k) (bonds_to rows k ++ (pair_of k ∷ [])) (bonds_to rows k)

-- The bonds of 128 rows of 128 cells
unfoldable pub bond_list : List ℕ → List Bond
bond_list rows = bonds_to rows 16384

-- a bond comes before another in dictionary order
unfoldable pub comes_before : Bond → Bond → Bool
comes_before x y = ltb x.0 y.0 || eqb x.0 y.0 && ltb x.1 y.1

-- Bonds after x: each with its lower atom first, and later in dictionary order than the one before it
unfoldable pub ascending : Bond → List Bond → Bool
ascending x [] = true
ascending x (y ∷ ys) = ltb y.0 y.1 && comes_before x y && ascending y ys

-- two lists of bonds are the same
unfoldable pub same_bonds : List Bond → List Bond → Bool
same_bonds [] [] = true
same_bonds [] (y ∷ ys) = false
same_bonds (x ∷ xs) [] = false
same_bonds (x ∷ xs) (y ∷ ys) = eqb x.0 y.0 && eqb x.1 y.1 && same_bonds xs ys
