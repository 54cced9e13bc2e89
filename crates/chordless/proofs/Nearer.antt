-- Where every bond leads nearer to t, every list that leads there is as short as can be: the paths are the shortest
-- paths, and each bond from the last atom of a beginning goes on it. The bonds of adj that lead nearer are such bonds.
use Prim.Native.Nat.{ℕ, suc}
use mathlib.Core.Path.{◌≡◌, refl, ap, ◌∙◌, fun_ext}
use mathlib.Core.Bool.{Bool, true, false}
use mathlib.Core.List.{List, [], ◌∷◌, ◌++◌, append_assoc}
use mathlib.Core.Logic.{◌↔◌}
use native.Mathlib.Omega.{arith}
use lib.ListN.{length}
use borrow.Author.Tests.{eq-eqb}
use Rattle.graph.specs.Chordless.{Adjacency, is_path}
use Rattle.graph.proofs.Below.{clash, false_of, same_test}
use Rattle.graph.proofs.Facts.{path-facts}
use Rattle.enumeration.specs.Words.{is_open}
use Rattle.chordless.specs.Families.{paths, is_shortest, shortest_paths}
use Rattle.chordless.specs.Reach.{Irreflexive}
use Rattle.chordless.specs.Distance.{Atom, ways, Far, Nearing, Leading}
use Rattle.chordless.proofs.Members.{open-has, open_of}
use Rattle.chordless.proofs.Bounds.{paths-bounded}
use Rattle.chordless.proofs.Routes.{none_of, Route, here, step, route-length, route-ways, ways-here, ways-route, route-splice, Joins, joins-cons, joins-route, shortest-route, route-shortest}
use Rattle.chordless.proofs.Distances.{far-same, far-next}
use Rattle.chordless.proofs.ShortestPaths.{shortest-path}

-- a path joins its ends
pub path-joins : (n : ℕ) (adj : Adjacency) (s t : ℕ) (w : List ℕ) → is_path n adj s t w ≡ true → Joins n adj t s w
path-joins n adj s t w e =
    let path = path-facts n adj s t w e in
    record {
      long = path.long;
      range = path.range;
      first = path.first;
      last = path.last;
      bonds = λ i h. path.bonds i (suc i) (omega arith) h ∙ eq-eqb (suc i) (suc i) refl;
    }

-- where each bond of `near` leads from distance d + 1 to d, by the distances of adj, a list that leads to t by bonds of
-- `near` is as long as the distance
pub nearer-far :
    {n : ℕ} {adj : Adjacency} {t : ℕ} {near : Adjacency} →
    ((a b : ℕ) → near a b ≡ true → (d : ℕ) × Far n adj t (suc d) a × Far n adj t d b) →
    {d v : ℕ} {w : List ℕ} → Route n near t d v w → Far n adj t d v
nearer-far {n} {adj} {t} nearer (here e) = record {
  joined = ways-here n adj t e;
  no_nearer = λ k h. absurd (omega arith);
}
nearer-far {n} {adj} {t} nearer (step {v = v} {a = a} atom bond r) =
    let (d, from, to) = nearer v a bond in
    let same = far-same to (nearer-far nearer r) in
    rw same at from

module _ {n t : ℕ} {near : Adjacency} (leading : Leading n t near) where
  -- ---- every bond leads nearer

  leading-far : {d v : ℕ} {w : List ℕ} → Route n near t d v w → Far n near t d v
  leading-far r = nearer-far leading.nearer r

  -- s and a list that leads from it to t is a path
  pub leading-member :
      {s : ℕ} {r : List ℕ} → Atom n s → Route n near t (length r) s r → is_path n near s t (s ∷ r) ≡ true
  leading-member {s} {r} atom route =
      shortest-path n near s t (s ∷ r) (route-shortest n near t s r atom route (leading-far route))

  path-shortest : (s : ℕ) (w : List ℕ) → is_path n near s t w ≡ true → is_shortest n near s t w ≡ true
  path-shortest s w e =
      let (r, shape, atom, route) = joins-route n near t s w (path-joins n near s t w e) in
      rw shape (route-shortest n near t s r atom route (leading-far route))

  pub leading-paths : (s : ℕ) → shortest_paths n near s t ≡ paths n near s t
  leading-paths s =
      ap (λ (member : List ℕ → Bool). record { atoms = n; member = member })
      (fun_ext (λ w. same_test (is_shortest n near s t w) (is_path n near s t w)
      (shortest-path n near s t w) (path-shortest s w)))

  pub leading-irreflexive : Irreflexive n near
  leading-irreflexive u low high = false_of (near u u) (λ bond.
      let (d, from, to) = leading.nearer u u bond in
      let same : suc d ≡ d = far-same from to in
      omega arith)

  -- ---- beginnings

  -- an atom that a bond leads to leads on to t
  bond-route : (a b : ℕ) → near a b ≡ true → (w : List ℕ) × Route n near t (length w) b w
  bond-route a b bond =
      let (d, from, to) = leading.nearer a b bond in
      let (w, route) = ways-route n near t d b to.joined in
      (w, rw (route-length n near t route) route)

  -- a path goes on from any of its atoms by any list that leads to t
  path-splice :
      (s : ℕ) (p : List ℕ) (x : ℕ) (r q : List ℕ) → is_path n near s t (p ++ x ∷ r) ≡ true →
      Route n near t (length q) x q → is_path n near s t (p ++ x ∷ q) ≡ true
  path-splice s [] x r q e other =
      let (first, atom, route) = joins-cons n near t (path-joins n near s t (x ∷ r) e) in
      rw (← first) (leading-member atom other)
  path-splice s (y ∷ p) x r q e other =
      let (first, atom, route) = joins-cons n near t (path-joins n near s t (y ∷ p ++ x ∷ r) e) in
      rw (← first) (leading-member atom (route-splice n near t p r route other))

  module _ (s : ℕ) where
    ends-has :
        (p : List ℕ) (x : ℕ) → is_open (paths n near s t) (p ++ x ∷ []) ≡ true →
        (a : ℕ) × (r : List ℕ) × (is_path n near s t ((p ++ x ∷ []) ++ a ∷ r) ≡ true)
    ends-has [] x e = open-has (paths n near s t) (paths-bounded n near s t) x [] e
    ends-has (y ∷ p) x e = open-has (paths n near s t) (paths-bounded n near s t) y (p ++ x ∷ []) e

    ends_of :
        (p : List ℕ) (x a : ℕ) (r : List ℕ) → is_path n near s t ((p ++ x ∷ []) ++ a ∷ r) ≡ true →
        is_open (paths n near s t) (p ++ x ∷ []) ≡ true
    ends_of [] x a r e = open_of (paths n near s t) (paths-bounded n near s t) x [] a r e
    ends_of (y ∷ p) x a r e = open_of (paths n near s t) (paths-bounded n near s t) y (p ++ x ∷ []) a r e

    -- every atom beside the last one of an open beginning makes a member or opens
    pub leading-opens :
        (p : List ℕ) (x v : ℕ) → is_open (paths n near s t) (p ++ x ∷ []) ≡ true → near x v ≡ true →
        is_path n near s t ((p ++ x ∷ []) ++ v ∷ []) ≡ false →
        is_open (paths n near s t) ((p ++ x ∷ []) ++ v ∷ []) ≡ true
    leading-opens p x v e bond no_member =
        let (a, r, path) = ends-has p x e in
        let (w, route) = bond-route x v bond in
        let on = step (leading.to x v bond) bond route in
        let whole = path-splice s p x (a ∷ r) (v ∷ w) (rw append_assoc at path) on in
        go w whole
      where
        go :
            (w : List ℕ) → is_path n near s t (p ++ x ∷ v ∷ w) ≡ true →
            is_open (paths n near s t) ((p ++ x ∷ []) ++ v ∷ []) ≡ true
        go [] f = absurd (clash (is_path n near s t ((p ++ x ∷ []) ++ v ∷ [])) (rw append_assoc f) no_member)
        go (c ∷ w) f = ends_of (p ++ x ∷ []) v c w (simp append_assoc f)

    -- s opens exactly when it has a bond
    pub leading-starts : (is_open (paths n near s t) (s ∷ []) ≡ true) ↔ ((v : ℕ) × (near s v ≡ true))
    leading-starts = (to, λ (v, bond). back v bond)
      where
        to : is_open (paths n near s t) (s ∷ []) ≡ true → (v : ℕ) × (near s v ≡ true)
        to e =
            let (a, r, path) = open-has (paths n near s t) (paths-bounded n near s t) s [] e in
            (a, (path-joins n near s t (s ∷ a ∷ r) path).bonds 0 (omega arith))

        back : (v : ℕ) → near s v ≡ true → is_open (paths n near s t) (s ∷ []) ≡ true
        back v bond =
            let (w, route) = bond-route s v bond in
            let path = leading-member (leading.from s v bond) (step (leading.to s v bond) bond route) in
            open_of (paths n near s t) (paths-bounded n near s t) s [] v w path

-- ---- the bonds of adj that lead nearer

module _ {n : ℕ} {adj : Adjacency} {t : ℕ} {near : Adjacency} (nearing : Nearing n adj t near) where
  -- a list that leads to t by as many bonds as the distance goes by bonds that lead nearer
  far-route :
      {d v : ℕ} {w : List ℕ} → Atom n v → Far n adj t d v → Route n adj t d v w → Route n near t d v w
  far-route atom far (here e) = here e
  far-route atom far (step {d} {v} {a} next bond r) =
      let nearer = far-next far next bond (route-ways n adj t r) in
      step next (nearing.every v a d atom next bond far nearer) (far-route next nearer r)

  near-route : {d v : ℕ} {w : List ℕ} → Route n near t d v w → Route n adj t d v w
  near-route (here e) = here e
  near-route (step {v = v} {a = a} atom bond r) = step atom (nearing.bond v a bond) (near-route r)

  pub far-near : {d v : ℕ} → Atom n v → Far n adj t d v → Far n near t d v
  far-near {d} {v} atom far = record {
    joined = let (w, route) = ways-route n adj t d v far.joined in route-ways n near t (far-route atom far route);
    no_nearer = λ e h. none_of (ways n near t e v) (λ l.
        let (w, route) = ways-route n near t e v l in
        let one = route-ways n adj t (near-route route) in
        let zero-ways = far.no_nearer e h in
        omega arith);
  }

  pub nearing-leading : Leading n t near
  nearing-leading = record {
    from = nearing.from;
    to = nearing.to;
    nearer = λ a b bond.
        let (d, from, to) = nearing.nearer a b bond in
        (d, far-near (nearing.from a b bond) from, far-near (nearing.to a b bond) to);
  }

  nearing-to : (s : ℕ) (w : List ℕ) → is_shortest n adj s t w ≡ true → is_shortest n near s t w ≡ true
  nearing-to s w e =
      let (r, shape, atom, route, far) = shortest-route n adj t s w e in
      rw shape (route-shortest n near t s r atom (far-route atom far route) (far-near atom far))

  nearing-back : (s : ℕ) (w : List ℕ) → is_shortest n near s t w ≡ true → is_shortest n adj s t w ≡ true
  nearing-back s w e =
      let (r, shape, atom, route, far) = shortest-route n near t s w e in
      rw shape (route-shortest n adj t s r atom (near-route route) (nearer-far nearing.nearer route))

  pub nearing-same : (s : ℕ) → shortest_paths n adj s t ≡ shortest_paths n near s t
  nearing-same s =
      ap (λ (member : List ℕ → Bool). record { atoms = n; member = member })
      (fun_ext (λ w. same_test (is_shortest n adj s t w) (is_shortest n near s t w) (nearing-to s w)
      (nearing-back s w)))

  pub nearing-paths : (s : ℕ) → shortest_paths n adj s t ≡ paths n near s t
  nearing-paths s = nearing-same s ∙ leading-paths nearing-leading s
