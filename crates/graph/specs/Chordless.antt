-- Rings and paths of document 01 ("Rings, paths and the list") over n atoms, numbered from 1, and any adjacency.
-- An atom list is any list of numbers; its places count from 0.
use Rattle.std.specs.Prelude.{ℕ, suc, ◌-◌, Bool, ◌&&◌, ◌||◌, not, List, length, get_or, leb, ltb, eqb}
use Rattle.std.specs.Bool.{beq}
use Rattle.graph.specs.Every.{all_below}

abbrev pub Adjacency : Type 0
Adjacency = ℕ → ℕ → Bool

abbrev pub atom_at : List ℕ → ℕ → ℕ
atom_at xs i = get_or xs i 0

abbrev pub last_atom : List ℕ → ℕ
last_atom xs = atom_at xs (length xs - 1)

-- every atom is from 1 to n
unfoldable pub in_range : ℕ → List ℕ → Bool
in_range n xs = all_below (length xs) (λ i. leb 1 (atom_at xs i) && leb (atom_at xs i) n)

-- any two places i < j hold different atoms,
-- and these are bonded exactly when `joined i j` says so
unfoldable pub induces : Adjacency → (ℕ → ℕ → Bool) → List ℕ → Bool
induces adj joined xs =
    all_below (length xs) (λ j. all_below j (λ i.
    not (eqb (atom_at xs i) (atom_at xs j))
    && beq (adj (atom_at xs i) (atom_at xs j)) (joined i j)))

-- along a path, places i < j are joined when they are consecutive
abbrev pub along_path : ℕ → ℕ → Bool
along_path i j = eqb j (suc i)

-- along a ring of k atoms, also the first and the last
abbrev pub along_ring : ℕ → ℕ → ℕ → Bool
along_ring k i j = eqb j (suc i) || eqb i 0 && eqb (suc j) k

-- Ring: three or more different atoms, consecutive ones bonded, last and first bonded, no other two bonded;
-- the first is the lowest and the second is lower than the last
unfoldable pub is_ring : ℕ → Adjacency → List ℕ → Bool
is_ring n adj xs =
    leb 3 (length xs)
    && in_range n xs
    && induces adj (along_ring (length xs)) xs
    && all_below (length xs - 1) (λ i. ltb (atom_at xs 0) (atom_at xs (suc i)))
    && ltb (atom_at xs 1) (last_atom xs)

-- Path from s to t: different atoms, first s, last t, consecutive ones bonded, no other two bonded
unfoldable pub is_path : ℕ → Adjacency → ℕ → ℕ → List ℕ → Bool
is_path n adj s t xs =
    leb 1 (length xs)
    && in_range n xs
    && eqb (atom_at xs 0) s
    && eqb (last_atom xs) t
    && induces adj along_path xs
