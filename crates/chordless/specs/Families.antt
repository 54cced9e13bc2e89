-- What a search lists: the rings, the paths from s to t, of either those up to a size, and the shortest paths.
use Rattle.std.specs.Prelude.{ℕ, suc, ◌-◌, Bool, ◌&&◌, not, List, length, leb, eqb}
use Rattle.graph.specs.Every.{all_below}
use Rattle.graph.specs.Chordless.{Adjacency, atom_at, last_atom, in_range, is_ring, is_path}
use Rattle.enumeration.specs.Words.{Family, any, words}

abbrev pub rings : ℕ → Adjacency → Family
rings n adj = record { atoms = n; member = is_ring n adj }

abbrev pub paths : ℕ → Adjacency → ℕ → ℕ → Family
paths n adj s t = record { atoms = n; member = is_path n adj s t }

-- The members of a family that have at most k atoms: of the rings, those of kind 2 (request F-4)
abbrev pub up_to : ℕ → Family → Family
up_to k F = record { atoms = F.atoms; member = λ w. F.member w && leb (length w) k }

-- The list joins s to t: atoms from 1 to n, first s, last t, consecutive ones bonded
unfoldable pub joins : ℕ → Adjacency → ℕ → ℕ → List ℕ → Bool
joins n adj s t xs =
    leb 1 (length xs)
    && in_range n xs
    && eqb (atom_at xs 0) s
    && eqb (last_atom xs) t
    && all_below (length xs - 1) (λ i. adj (atom_at xs i) (atom_at xs (suc i)))

-- Shortest path from s to t (request F-14): it joins s to t, and no list of fewer atoms does
unfoldable pub is_shortest : ℕ → Adjacency → ℕ → ℕ → List ℕ → Bool
is_shortest n adj s t xs = joins n adj s t xs && not (any (joins n adj s t) (words n (length xs - 1)))

abbrev pub shortest_paths : ℕ → Adjacency → ℕ → ℕ → Family
shortest_paths n adj s t = record { atoms = n; member = is_shortest n adj s t }
