-- Atom lists place by place: atoms in range, and a path as a ring that never closes.
-- Both follow from the laws of `all_below`.
use Prim.Native.Nat.{ℕ, zero, suc, ◌≤◌, ◌<◌}
use native.Mathlib.Omega.{arith}
use mathlib.Core.Path.{◌≡◌, refl}
use mathlib.Core.Bool.{Bool, true, ◌&&◌, not, beq, and-false, or-false}
use mathlib.Core.List.{List}
use lib.ListN.{length, get_or, replicate}
use lib.Dec.{eqb, eqb-suc-zero}
use Rattle.graph.specs.Every.{all_below}
use Rattle.graph.specs.Chordless.{Adjacency, atom_at, in_range, induces, along_path, along_ring}
use Rattle.graph.proofs.Facts.{in_range-at}

-- an atom of a list that is in range
pub range_at :
    (n : ℕ) (xs : List ℕ) → in_range n xs ≡ true → (i : ℕ) → i < length xs → (1 ≤ atom_at xs i) × (atom_at xs i ≤ n)
range_at = in_range-at

-- a list of zeros
pub zeros-at : (k i : ℕ) → get_or {A = ℕ} (replicate k 0) i 0 ≡ 0
zeros-at zero i = refl
zeros-at (suc k) zero = refl
zeros-at (suc k) (suc i) = zeros-at k i

-- tests that agree below the bound
pub all_same : (k : ℕ) (p q : ℕ → Bool) → ((i : ℕ) → i < k → p i ≡ q i) → all_below k p ≡ all_below k q
all_same zero p q f = refl
all_same (suc k) p q f = rw (all_same k p q (λ i h. f i (omega arith)), f k (omega arith))

pub induces-same :
    (adj : Adjacency) (p q : ℕ → ℕ → Bool) (xs : List ℕ) → ((i j : ℕ) → p i j ≡ q i j) →
    induces adj p xs ≡ induces adj q xs
unfolding induces
induces-same adj p q xs f =
    all_same (length xs) (λ j. all_below j (λ i. pair p i j)) (λ j. all_below j (λ i. pair q i j))
    (λ j h. all_same j (λ i. pair p i j) (λ i. pair q i j) (λ i l. rw (f i j)))
  where
    pair : (ℕ → ℕ → Bool) → ℕ → ℕ → Bool
    pair joined i j = not (eqb (atom_at xs i) (atom_at xs j)) && beq (adj (atom_at xs i) (atom_at xs j)) (joined i j)

-- along a ring of no atoms, places are joined as along a path
pub never-closes : (i j : ℕ) → along_ring 0 i j ≡ along_path i j
never-closes i j = rw (eqb-suc-zero j, and-false (eqb i 0), or-false (eqb j (suc i)))
