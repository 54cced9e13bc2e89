-- A shortest path is a path, for any adjacency; so the theory of a search is about the shortest paths too.
-- Along it each atom is one bond nearer to t: no two are the same, and none is bonded past the next one.
use Prim.Native.Nat.{ℕ, suc, ◌≤◌, ◌<◌}
use mathlib.Core.Path.{◌≡◌}
use mathlib.Core.Bool.{true}
use mathlib.Core.List.{List, ◌∷◌}
use native.Mathlib.Omega.{arith}
use Rattle.graph.specs.Chordless.{Adjacency, is_path}
use Rattle.graph.proofs.Below.{false_of}
use Rattle.graph.proofs.All.{All, none, ◌◁◌, all_map}
use Rattle.graph.proofs.Chain.{Off, Chordless, chordless-distinct, chordless-bonds}
use Rattle.graph.proofs.Facts.{Path, path-of-facts}
use Rattle.enumeration.specs.Lawful.{Lawful}
use Rattle.chordless.specs.Families.{is_shortest, shortest_paths}
use Rattle.chordless.specs.Distance.{Atom, ways, Far}
use Rattle.chordless.proofs.Lawful.{paths-lawful}
use Rattle.chordless.proofs.Routes.{Route, here, step, route-ways, ways-step, route-joins, shortest-route}
use Rattle.chordless.proofs.Distances.{far-least, far-next}

module _ (n : ℕ) (adj : Adjacency) (t : ℕ) where
  -- an atom that leads to t by fewer than d bonds
  abbrev Ahead : ℕ → ℕ → Type 0
  Ahead d u = (e : ℕ) × (e < d) × Atom n u × (1 ≤ ways n adj t e u)

  route-ahead : {d v : ℕ} {w : List ℕ} → Route n adj t d v w → All (Ahead d) w
  route-ahead (here e) = none
  route-ahead (step {d} atom bond r) =
      (d, omega arith, atom, route-ways n adj t r) ◁ all_map (λ u (e, h, f, g). (e, omega arith, f, g)) (route-ahead r)

  -- an atom d + 1 bonds from t is none of those that lead there by fewer than d, and is bonded to none
  ahead-off : {d v : ℕ} → Far n adj t (suc d) v → (u : ℕ) → Ahead d u → Off adj v u
  ahead-off {d} {v} far u (e, h, atom, g) = (
    λ same. let up = far-least e far (rw same g) in omega arith,
    false_of (adj v u) (λ bond. let up = far-least (suc e) far (ways-step n adj t e v atom bond g) in omega arith),
  )

  pub route-chordless : {d v : ℕ} {w : List ℕ} → Far n adj t d v → Route n adj t d v w → Chordless adj (v ∷ w)
  route-chordless far (here e) = tt
  route-chordless far (step {d} atom bond r) =
      let next = far-next far atom bond (route-ways n adj t r) in (
        λ same. let up = far-least d far (rw same next.joined) in omega arith,
        bond,
        all_map (ahead-off far) (route-ahead r),
        route-chordless next r,
      )

pub shortest-path :
    (n : ℕ) (adj : Adjacency) (s t : ℕ) (w : List ℕ) → is_shortest n adj s t w ≡ true → is_path n adj s t w ≡ true
shortest-path n adj s t w e =
    let (r, shape, atom, route, far) = shortest-route n adj t s w e in
    let joins = route-joins n adj t atom route in
    let chain = route-chordless n adj t far route in
    let path : Path n adj s t (s ∷ r) = record {
      long = joins.long;
      range = joins.range;
      first = joins.first;
      last = joins.last;
      distinct = chordless-distinct adj (s ∷ r) chain;
      bonds = chordless-bonds adj (s ∷ r) chain;
    } in
    rw shape (path-of-facts n adj s t (s ∷ r) path)

pub shortest-lawful : (n : ℕ) (adj : Adjacency) (s t : ℕ) → Lawful (shortest_paths n adj s t)
shortest-lawful n adj s t =
    let L = paths-lawful n adj s t in
    record {
      non_empty = λ w e. L.non_empty w (shortest-path n adj s t w e);
      short = λ w e. L.short w (shortest-path n adj s t w e);
      in_range = λ w e. L.in_range w (shortest-path n adj s t w e);
      prefix_free =
          λ v w e f begun. L.prefix_free v w (shortest-path n adj s t v e) (shortest-path n adj s t w f) begun;
    }
