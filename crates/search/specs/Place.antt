-- The search of document 01 as the struct holds it, and rule 12: which searches a mark on the molecule restores.
use Rattle.std.specs.Prelude.{ℕ, suc, ◌-◌, Bool, true, false, ◌&&◌, ◌||◌, cond, List, ◌++◌, reverse, length, get_or, take, replicate, leb, ltb, eqb}
use Rattle.graph.specs.Every.{all_below}
use Rattle.graph.specs.Chordless.{Adjacency}
use Rattle.enumeration.specs.Words.{Family, is_open}
use Rattle.enumeration.specs.Machine.{State, is_empty, fresh}
use Rattle.enumeration.specs.Run.{limit}
use Rattle.chordless.specs.Families.{rings, paths, up_to, shortest_paths}
use Rattle.molecule.specs.declared.Molecule.{Molecule}
use Rattle.molecule.specs.Record.{is_atom, bonded}
use Rattle.molecule.specs.Ends.{with_ends}
use Rattle.search.specs.declared.Search.{Search}

-- What a search of a kind lists, over the bonds of n atoms: 0 the rings, 1 the paths from s to t, 3 the shortest paths
-- from s to t, 2 the rings of at most s atoms
unfoldable pub family_in : ℕ → Adjacency → ℕ → ℕ → ℕ → Family
family_in n adj kind s t =
    cond (eqb kind 0) (rings n adj)
    (cond (eqb kind 1) (paths n adj s t)
    (cond (eqb kind 3) (shortest_paths n adj s t)
    (up_to s (rings n adj))))

-- The kinds that list paths from s to t, which are atoms: 1 and 3
abbrev pub lists_paths : ℕ → Bool
lists_paths kind = eqb kind 1 || eqb kind 3

-- and on a molecule
unfoldable pub family_of : Molecule → ℕ → ℕ → ℕ → Family
family_of mol kind s t = family_in mol.atoms (bonded mol.atoms mol.rows) kind s t

abbrev pub family : Molecule → Search → Family
family mol q = family_of mol q.kind q.s q.t

-- The present beginning p
unfoldable pub beginning : Search → List ℕ
beginning q = take q.len q.prefix

-- The search as the machine of trials sees it
unfoldable pub state_of : Search → State
state_of q = record {
  stack = reverse (beginning q);
  next = q.next;
  trials = q.trials;
  extensions = q.extensions;
  listed = q.listed;
}

-- a beginning in its array: the places past its length hold 0
unfoldable pub held : List ℕ → List ℕ
held p = p ++ replicate (128 - length p) 0

-- The search of a kind, s and t at a state of the machine, whose stack has at most 128 atoms
unfoldable pub search_at : ℕ → ℕ → ℕ → State → Search
search_at kind s t st =
    record {
      kind = kind;
      s = s;
      t = t;
      len = length st.stack;
      prefix = held (reverse st.stack);
      next = st.next;
      trials = st.trials;
      extensions = st.extensions;
      listed = st.listed;
    }

-- The fresh search of a kind, s and t
unfoldable pub fresh_search : ℕ → ℕ → ℕ → Search
fresh_search kind s t = search_at kind s t fresh

-- Rule 10 and rule 11 kept: s and t are atoms, and differ
unfoldable pub ends_kept : ℕ → ℕ → ℕ → Bool
ends_kept n s t = with_ends n s t (λ r. false) true

-- Rule 21 kept: the largest size k of a ring is from 3 to 128
unfoldable pub bound_kept : ℕ → Bool
bound_kept k = leb 3 k && leb k 128

-- Rule 16 of each kind: 0 with s and t both 0; 1 and 3 with s and t that keep rules 10 and 11; 2 with the largest size
-- in s, which keeps rule 21, and t 0
abbrev pub rings_allowed : ℕ → ℕ → ℕ → Bool
rings_allowed kind s t = eqb kind 0 && eqb s 0 && eqb t 0

abbrev pub paths_allowed : ℕ → ℕ → ℕ → ℕ → Bool
paths_allowed n kind s t = lists_paths kind && ends_kept n s t

abbrev pub sizes_allowed : ℕ → ℕ → ℕ → Bool
sizes_allowed kind s t = eqb kind 2 && bound_kept s && eqb t 0

-- Rule 16 kept: kind, s and t go together
unfoldable pub kind_kept : ℕ → ℕ → ℕ → ℕ → Bool
kind_kept n kind s t = rings_allowed kind s t || paths_allowed n kind s t || sizes_allowed kind s t

-- Rule 17 kept: p is open, and c is from 1 to n; p empty with c = n + 1 is allowed
unfoldable pub place_kept : Family → List ℕ → ℕ → Bool
place_kept F p c = is_open F p && (is_atom F.atoms c || is_empty p && eqb c (suc F.atoms))

-- Rule 12 kept: the search could be restored from a mark on this molecule. The array has 128 places, as the struct says
unfoldable pub restorable : Molecule → Search → Bool
restorable mol q =
    leb q.len 127
    && all_below 128 (λ i. ltb i q.len || eqb (get_or q.prefix i 0) 0)
    && kind_kept mol.atoms q.kind q.s q.t
    && place_kept (family mol q) (beginning q) q.next
    && leb q.trials limit
    && leb q.extensions limit
    && leb q.listed limit
