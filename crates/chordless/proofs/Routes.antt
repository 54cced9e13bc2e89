-- The lists that lead to t, by recursion: `leads_to` is `Route`, `ways` is at least 1 exactly when there is one, a list
-- that joins s to t is s and a route, and a shortest one is s and a route as long as the distance of s.
use Prim.Native.Nat.{ℕ, zero, suc, ◌-◌, ◌≤◌, ◌<◌}
use mathlib.Core.Path.{◌≡◌, refl, sym, ap, ◌∙◌}
use mathlib.Core.Bool.{Bool, true, false, ◌&&◌, cond}
use mathlib.Core.List.Memᴰ
use mathlib.Core.List.{List, [], ◌∷◌, ◌++◌, Memᴰ}
use mathlib.Core.Logic.{inl, inr, ◌↔◌}
use native.Mathlib.Omega.{arith}
use native.Mathlib.Nat.{not-suc-le-zero, le_of_suc-le-suc}
use native.Mathlib.Decide.{dec_lt}
use lib.ListN.{length}
use lib.Dec.{leb, eqb}
use borrow.Author.Tests.{leb-true, le-leb, eqb-true, eq-eqb, not-true}
use Rattle.graph.specs.Chordless.{Adjacency, atom_at, last_atom}
use Rattle.graph.proofs.Below.{apart, clash, false_of, and_parts, all_below-at, all_below-of}
use Rattle.graph.proofs.Facts.{InRange, in_range-at, in_range-of}
use Rattle.enumeration.specs.Words.{any, words, joined, numbers_from}
use Rattle.enumeration.proofs.Basics.{starting, any-mem, mem-any, joined-mem}
use Rattle.enumeration.proofs.Order.{map-mem, range_at, words-complete}
use Rattle.chordless.specs.Families.{joins, is_shortest}
use Rattle.chordless.specs.Distance.{Atom, leads_to, ways, Far}
use Rattle.chordless.proofs.Sums.{total_of, total-has}

-- a number that is not at least 1 is 0
pub none_of : (k : ℕ) → (1 ≤ k → ⊥) → k ≡ 0
none_of zero h = refl
none_of (suc k) h = absurd (h (omega arith))

-- a word of at most k atoms has no more
pub words-short : (n k : ℕ) {w : List ℕ} → Memᴰ w (words n k) → length w ≤ k
unfolding words
words-short n zero m = elim (Memᴰ.cases_cons m) [
  | inl e ↦ rw e (omega arith)
  | inr l ↦ absurd (Memᴰ.not-nil l)
]
words-short n (suc k) m = elim (Memᴰ.cases_cons m) [
  | inl e ↦ rw e (omega arith)
  | inr l ↦
      let (a, from, started) = joined-mem (starting n k) (numbers_from 1 n) l in
      let (u, listed, shape) = map-mem a (words n k) started in
      let short = words-short n k listed in
      rw shape (omega arith)
]

module _ (n : ℕ) (adj : Adjacency) (t : ℕ) where
  -- ---- the lists that lead to t

  -- w leads from v to t by d bonds
  pub data Route : ℕ → ℕ → List ℕ → Type 0 where
    here : {v : ℕ} → v ≡ t → Route zero v []
    step : {d v a : ℕ} {w : List ℕ} → Atom n a → adj v a ≡ true → Route d a w → Route (suc d) v (a ∷ w)

  pub route-leads : {d v : ℕ} {w : List ℕ} → Route d v w → leads_to n adj t d v w ≡ true
  unfolding leads_to
  route-leads (here {v} e) = eq-eqb v t e
  route-leads (step {d} {v} {a} {w} atom bond r) =
      simp (le-leb 1 a atom.low, le-leb a n atom.high, bond, route-leads r)

  pub leads-route : (d v : ℕ) (w : List ℕ) → leads_to n adj t d v w ≡ true → Route d v w
  unfolding leads_to
  leads-route zero v [] e = here (eqb-true v t e)
  leads-route zero v (a ∷ w) e = absurd (apart (sym e))
  leads-route (suc d) v [] e = absurd (apart (sym e))
  leads-route (suc d) v (a ∷ w) e =
      let (e1, rest) = and_parts (leb 1 a && leb a n && adj v a) (leads_to n adj t d a w) e in
      let (e2, bond) = and_parts (leb 1 a && leb a n) (adj v a) e1 in
      let (low, high) = and_parts (leb 1 a) (leb a n) e2 in
      step (record { low = leb-true 1 a low; high = leb-true a n high }) bond (leads-route d a w rest)

  pub route-length : {d v : ℕ} {w : List ℕ} → Route d v w → length w ≡ d
  route-length (here e) = refl
  route-length (step atom bond r) = ap suc (route-length r)

  -- another list from x on
  pub route-splice :
      {d u x : ℕ} (p r : List ℕ) {q : List ℕ} → Route d u (p ++ x ∷ r) → Route (length q) x q →
      Route (length (p ++ x ∷ q)) u (p ++ x ∷ q)
  route-splice [] r (step atom bond rest) other = step atom bond other
  route-splice (y ∷ p) r (step atom bond rest) other = step atom bond (route-splice p r rest other)

  pub leads-length : (d v : ℕ) (w : List ℕ) → leads_to n adj t d v w ≡ true → length w ≡ d
  leads-length d v w e = route-length (leads-route d v w e)

  -- ---- their number

  pub ways-here : {v : ℕ} → v ≡ t → 1 ≤ ways n adj t 0 v
  unfolding ways
  ways-here {v} e = rw (eq-eqb v t e) (omega arith)

  pub here-ways : {v : ℕ} → 1 ≤ ways n adj t 0 v → v ≡ t
  unfolding ways
  here-ways {v} h = go (eqb v t) refl h
    where
      go : (b : Bool) → eqb v t ≡ b → 1 ≤ cond b 1 0 → v ≡ t
      go true e l = eqb-true v t e
      go false e l = absurd (not-suc-le-zero l)

  -- one bond more
  pub ways-step : (d v : ℕ) {a : ℕ} → Atom n a → adj v a ≡ true → 1 ≤ ways n adj t d a → 1 ≤ ways n adj t (suc d) v
  unfolding ways
  ways-step d v {a} atom bond h =
      total_of (λ (b : ℕ). cond (adj v b) (ways n adj t d b) 0) atom (rw bond h)

  pub ways_next :
      (d v : ℕ) → 1 ≤ ways n adj t (suc d) v →
      (a : ℕ) × Atom n a × (adj v a ≡ true) × (1 ≤ ways n adj t d a)
  unfolding ways
  ways_next d v h =
      let (a, atom, one) = total-has n (λ (b : ℕ). cond (adj v b) (ways n adj t d b) 0) h in
      let (bond, more) = go a (adj v a) refl one in
      (a, atom, bond, more)
    where
      go :
          (a : ℕ) (b : Bool) → adj v a ≡ b → 1 ≤ cond b (ways n adj t d a) 0 →
          (adj v a ≡ true) × (1 ≤ ways n adj t d a)
      go a true e l = (e, l)
      go a false e l = absurd (not-suc-le-zero l)

  pub route-ways : {d v : ℕ} {w : List ℕ} → Route d v w → 1 ≤ ways n adj t d v
  route-ways (here e) = ways-here e
  route-ways (step {d} {v} atom bond r) = ways-step d v atom bond (route-ways r)

  pub ways-route : (d v : ℕ) → 1 ≤ ways n adj t d v → (w : List ℕ) × Route d v w
  ways-route zero v h = ([], here (here-ways h))
  ways-route (suc d) v h =
      let (a, atom, bond, more) = ways_next d v h in
      let (w, r) = ways-route d a more in
      (a ∷ w, step atom bond r)

  pub leads-ways : (d v : ℕ) (w : List ℕ) → leads_to n adj t d v w ≡ true → 1 ≤ ways n adj t d v
  leads-ways d v w e = route-ways (leads-route d v w e)

  pub ways-leads : (d v : ℕ) → 1 ≤ ways n adj t d v → (w : List ℕ) × (leads_to n adj t d v w ≡ true)
  ways-leads d v h = let (w, r) = ways-route d v h in (w, route-leads r)

  -- ---- the lists that join s to t

  -- the facts of the test `joins`
  pub record Joins (s : ℕ) (xs : List ℕ) : Type 0 where
    pub long : 1 ≤ length xs
    pub range : InRange n xs
    pub first : atom_at xs 0 ≡ s
    pub last : last_atom xs ≡ t
    pub bonds : (i : ℕ) → suc i < length xs → adj (atom_at xs i) (atom_at xs (suc i)) ≡ true

  module _ (s : ℕ) (xs : List ℕ) where
    -- the atom at place i is bonded to the next
    abbrev on : ℕ → Bool
    on i = adj (atom_at xs i) (atom_at xs (suc i))

    pub joins-facts : joins n adj s t xs ≡ true → Joins s xs
    unfolding joins
    joins-facts e =
        let (e1, b) = and_parts _ _ e in
        let (e2, g) = and_parts _ _ e1 in
        let (e3, f) = and_parts _ _ e2 in
        let (l, r) = and_parts _ _ e3 in
        record {
          long = leb-true 1 (length xs) l;
          range = in_range-at n xs r;
          first = eqb-true (atom_at xs 0) s f;
          last = eqb-true (last_atom xs) t g;
          bonds = λ i h. all_below-at (length xs - 1) on b i (omega arith);
        }

    pub joins-of-facts : Joins s xs → joins n adj s t xs ≡ true
    unfolding joins
    joins-of-facts r =
        let long = le-leb 1 (length xs) r.long in
        let range = in_range-of n xs r.range in
        let first = eq-eqb (atom_at xs 0) s r.first in
        let last = eq-eqb (last_atom xs) t r.last in
        let bonded = all_below-of (length xs - 1) on (λ i h. r.bonds i (omega arith)) in
        simp (long, range, first, last, bonded)

  route-of :
      (x : ℕ) (r : List ℕ) → InRange n (x ∷ r) → atom_at (x ∷ r) (length r) ≡ t →
      ((i : ℕ) → suc i < length (x ∷ r) → adj (atom_at (x ∷ r) i) (atom_at (x ∷ r) (suc i)) ≡ true) →
      Route (length r) x r
  route-of x [] range last bonds = here last
  route-of x (a ∷ r) range last bonds =
      let (low, high) = range 1 (omega arith) in
      step (record { low = low; high = high }) (bonds 0 (omega arith))
      (route-of a r (λ i h. range (suc i) (omega arith)) last (λ i h. bonds (suc i) (omega arith)))

  route-range : {d v : ℕ} {w : List ℕ} → Atom n v → Route d v w → InRange n (v ∷ w)
  route-range atom r zero h = (atom.low, atom.high)
  route-range atom (here e) (suc i) h = absurd (omega arith)
  route-range atom (step next bond r) (suc i) h = route-range next r i (le_of_suc-le-suc h)

  route-last : {d v : ℕ} {w : List ℕ} → Route d v w → atom_at (v ∷ w) (length w) ≡ t
  route-last (here e) = e
  route-last (step atom bond r) = route-last r

  route-bonds :
      {d v : ℕ} {w : List ℕ} → Route d v w →
      (i : ℕ) → suc i < length (v ∷ w) → adj (atom_at (v ∷ w) i) (atom_at (v ∷ w) (suc i)) ≡ true
  route-bonds (here e) i h = absurd (omega arith)
  route-bonds (step atom bond r) zero h = bond
  route-bonds (step atom bond r) (suc i) h = route-bonds r i (le_of_suc-le-suc h)

  last-place : (x : ℕ) (r : List ℕ) → last_atom (x ∷ r) ≡ atom_at (x ∷ r) (length r)
  last-place x r = let e : suc (length r) - 1 ≡ length r = omega arith in ap (atom_at (x ∷ r)) e

  pub joins-cons : {s x : ℕ} {r : List ℕ} → Joins s (x ∷ r) → (x ≡ s) × Atom n x × Route (length r) x r
  joins-cons {x = x} {r} j =
      let (low, high) = j.range 0 (omega arith) in
      let route = route-of x r j.range (sym (last-place x r) ∙ j.last) j.bonds in
      (j.first, record { low = low; high = high }, route)

  pub joins-route : (s : ℕ) (w : List ℕ) → Joins s w → (r : List ℕ) × (w ≡ s ∷ r) × Atom n s × Route (length r) s r
  joins-route s [] j = absurd (not-suc-le-zero j.long)
  joins-route s (x ∷ r) j =
      let (first, atom, route) = joins-cons j in
      (r, ap (λ (y : ℕ). y ∷ r) first, rw first at atom, rw first at route)

  pub route-joins : {s : ℕ} {r : List ℕ} → Atom n s → Route (length r) s r → Joins s (s ∷ r)
  route-joins {s} {r} atom route = record {
    long = omega arith;
    range = route-range atom route;
    first = refl;
    last = last-place s r ∙ route-last route;
    bonds = route-bonds route;
  }

  pub joins-leads :
      (s : ℕ) (w : List ℕ) →
      (joins n adj s t w ≡ true) ↔
      ((r : List ℕ) × (w ≡ s ∷ r) × Atom n s × (leads_to n adj t (length r) s r ≡ true))
  joins-leads s w = (to, λ (r, shape, atom, leads). back r shape atom leads)
    where
      to :
          joins n adj s t w ≡ true →
          (r : List ℕ) × (w ≡ s ∷ r) × Atom n s × (leads_to n adj t (length r) s r ≡ true)
      to e =
          let (r, shape, atom, route) = joins-route s w (joins-facts s w e) in
          (r, shape, atom, route-leads route)

      back :
          (r : List ℕ) → w ≡ s ∷ r → Atom n s → leads_to n adj t (length r) s r ≡ true → joins n adj s t w ≡ true
      back r shape atom leads =
          rw shape (joins-of-facts s (s ∷ r) (route-joins atom (leads-route (length r) s r leads)))

  -- ---- the shortest of them

  -- a list that joins s to t has more atoms than the distance of s
  pub joins-far : (d s : ℕ) (w : List ℕ) → Far n adj t d s → joins n adj s t w ≡ true → d < length w
  joins-far d s w far e = elim (dec_lt d (length w)) [
    | yes h ↦ h
    | no h ↦
        let (r, shape, atom, route) = joins-route s w (joins-facts s w e) in
        let size = ap length shape in
        let none = far.no_nearer (length r) (omega arith) in
        let some = route-ways route in
        absurd (omega arith)
  ]

  -- some list of at most k atoms joins s to t
  pub joins_any :
      (s k d : ℕ) → Atom n s → d < k → 1 ≤ ways n adj t d s → any (joins n adj s t) (words n k) ≡ true
  joins_any s k d atom short h =
      let (r, route) = ways-route d s h in
      let size = route-length route in
      let whole : Route (length r) s r = rw size route in
      let j = route-joins atom whole in
      let listed = words-complete n k (s ∷ r) (range_at n (s ∷ r) j.range) (omega arith) in
      mem-any (joins n adj s t) listed (joins-of-facts s (s ∷ r) j)

  pub shortest-route :
      (s : ℕ) (w : List ℕ) → is_shortest n adj s t w ≡ true →
      (r : List ℕ) × (w ≡ s ∷ r) × Atom n s × Route (length r) s r × Far n adj t (length r) s
  unfolding is_shortest
  shortest-route s w e =
      let (joined, fewest) = and_parts _ _ e in
      let (r, shape, atom, route) = joins-route s w (joins-facts s w joined) in
      let none : any (joins n adj s t) (words n (length w - 1)) ≡ false = not-true _ fewest in
      let size = ap length shape in
      let far : Far n adj t (length r) s = record {
        joined = route-ways route;
        no_nearer = λ k h. none_of (ways n adj t k s)
            (λ l. clash _ (joins_any s (length w - 1) k atom (omega arith) l) none);
      } in
      (r, shape, atom, route, far)

  pub route-shortest :
      (s : ℕ) (r : List ℕ) → Atom n s → Route (length r) s r → Far n adj t (length r) s →
      is_shortest n adj s t (s ∷ r) ≡ true
  unfolding is_shortest
  route-shortest s r atom route far =
      simp (joins-of-facts s (s ∷ r) (route-joins atom route), none)
    where
      none : any (joins n adj s t) (words n (length (s ∷ r) - 1)) ≡ false
      none = false_of (any (joins n adj s t) (words n (length (s ∷ r) - 1))) (λ e.
          let (w, listed, other) = any-mem (joins n adj s t) (words n (length (s ∷ r) - 1)) e in
          let long = joins-far (length r) s w far other in
          let short = words-short n (length (s ∷ r) - 1) listed in
          omega arith)

  pub shortest-leads :
      (s : ℕ) (w : List ℕ) →
      (is_shortest n adj s t w ≡ true) ↔
      ((r : List ℕ) × (w ≡ s ∷ r) × Atom n s × (leads_to n adj t (length r) s r ≡ true)
      × Far n adj t (length r) s)
  shortest-leads s w = (to, λ (r, shape, atom, leads, far). back r shape atom leads far)
    where
      to :
          is_shortest n adj s t w ≡ true →
          (r : List ℕ) × (w ≡ s ∷ r) × Atom n s × (leads_to n adj t (length r) s r ≡ true)
          × Far n adj t (length r) s
      to e =
          let (r, shape, atom, route, far) = shortest-route s w e in
          (r, shape, atom, route-leads route, far)

      back :
          (r : List ℕ) → w ≡ s ∷ r → Atom n s → leads_to n adj t (length r) s r ≡ true → Far n adj t (length r) s →
          is_shortest n adj s t w ≡ true
      back r shape atom leads far = rw shape (route-shortest s r atom (leads-route (length r) s r leads) far)
