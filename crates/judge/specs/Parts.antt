-- What the parts of the judge ask and decide. Nothing to believe: they are parts of `induces` and `is_ring`.
use Rattle.std.specs.Prelude.{ℕ, suc, ◌-◌, ◌≤◌, ◌<◌, ◌≡◌, Bool, true, ◌&&◌, not, List, length, leb, ltb, eqb}
use Rattle.std.specs.Bool.{beq}
use Rattle.graph.specs.Every.{all_below}
use Rattle.graph.specs.Chordless.{Adjacency, atom_at, in_range, along_ring}

-- the list xs has atoms of a molecule of n atoms
pub record Atoms (n : ℕ) (xs : List ℕ) : Type 0 where
  pub few : n ≤ 128
  pub range : in_range n xs ≡ true

-- and j is a place of it
pub record OnePlace (n : ℕ) (xs : List ℕ) (j : ℕ) : Type 0 where
  pub atoms : Atoms n xs
  pub inside : j < length xs

-- and i is a place before j
pub record TwoPlaces (n : ℕ) (xs : List ℕ) (i j : ℕ) : Type 0 where
  pub later : OnePlace n xs j
  pub before : i < j

unfoldable pub pair_fits : Adjacency → ℕ → List ℕ → ℕ → ℕ → Bool
pair_fits adj k xs j i =
    not (eqb (atom_at xs i) (atom_at xs j)) && beq (adj (atom_at xs i) (atom_at xs j)) (along_ring k i j)

unfoldable pub fits_before : Adjacency → ℕ → List ℕ → ℕ → Bool
fits_before adj k xs j = all_below j (pair_fits adj k xs j)

unfoldable pub in_range_at : ℕ → List ℕ → ℕ → Bool
in_range_at n xs i = leb 1 (atom_at xs i) && leb (atom_at xs i) n

unfoldable pub above_first : List ℕ → ℕ → Bool
above_first xs i = ltb (atom_at xs 0) (atom_at xs (suc i))

unfoldable pub lowest_first : List ℕ → Bool
lowest_first xs = all_below (length xs - 1) (above_first xs)
