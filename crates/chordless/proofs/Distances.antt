-- Distances: an atom has at most one, and an atom further away is bonded to one that is one nearer.
-- From the number of lists that lead to t by so many bonds.
use Prim.Native.Nat.{ℕ, zero, suc, ◌≤◌}
use native.Mathlib.Omega.{arith}
use native.Mathlib.Decide.{ℕ_discrete, dec_le}
use mathlib.Core.Path.{◌≡◌}
use mathlib.Core.Bool.{true}
use mathlib.Core.Logic.{◌⊎◌, inl, inr}
use Rattle.graph.specs.Chordless.{Adjacency}
use Rattle.chordless.specs.Distance.{Atom, ways, Far}
use Rattle.chordless.proofs.Routes.{none_of, ways-step, ways_next}

module _ {n : ℕ} {adj : Adjacency} {t : ℕ} where
  -- nothing leads to t by fewer bonds than the distance
  pub far-least : {d : ℕ} (e : ℕ) {v : ℕ} → Far n adj t d v → 1 ≤ ways n adj t e v → d ≤ e
  far-least {d} e far h = elim (dec_le d e) [
    | yes l ↦ l
    | no l ↦ let none = far.no_nearer e (omega arith) in absurd (omega arith)
  ]

  -- an atom has one distance
  pub far-same : {d e v : ℕ} → Far n adj t d v → Far n adj t e v → d ≡ e
  far-same {d} {e} far other =
      let up : d ≤ e = far-least e far other.joined in
      let down : e ≤ d = far-least d other far.joined in
      omega arith

  -- the next atom of a shortest list is one bond nearer
  pub far-next :
      {d v a : ℕ} → Far n adj t (suc d) v → Atom n a → adj v a ≡ true → 1 ≤ ways n adj t d a → Far n adj t d a
  far-next {d} {v} {a} far atom bond h = record {
    joined = h;
    no_nearer = λ e l. none_of (ways n adj t e a)
        (λ m. let up : suc d ≤ suc e = far-least (suc e) far (ways-step n adj t e v atom bond m) in omega arith);
  }

  -- there is one
  pub far-has : {d v : ℕ} → Far n adj t (suc d) v → (a : ℕ) × Atom n a × (adj v a ≡ true) × Far n adj t d a
  far-has {d} {v} far =
      let (a, atom, bond, some) = ways_next n adj t d v far.joined in
      (a, atom, bond, far-next far atom bond some)

-- within d bonds an atom is not joined to t, or it has a distance
pub nearest :
    (n : ℕ) (adj : Adjacency) (t d v : ℕ) →
    ((e : ℕ) → e ≤ d → ways n adj t e v ≡ 0) ⊎ ((e : ℕ) × (e ≤ d) × Far n adj t e v)
nearest n adj t zero v = elim (ℕ_discrete (ways n adj t 0 v) 0) [
  | yes q ↦ inl (λ e h. let same : e ≡ 0 = omega arith in rw same q)
  | no q ↦ inr (0, omega arith, record { joined = omega arith; no_nearer = λ e h. absurd (omega arith) })
]
nearest n adj t (suc d) v = elim (nearest n adj t d v) [
  | inr (e, h, far) ↦ inr (e, omega arith, far)
  | inl none ↦ elim (ℕ_discrete (ways n adj t (suc d) v) 0) [
    | yes q ↦ inl (λ e h. elim (ℕ_discrete e (suc d)) [
      | yes same ↦ rw same q
      | no other ↦ none e (omega arith)
    ])
    | no q ↦ inr (suc d, omega arith, record { joined = omega arith; no_nearer = λ e h. none e (omega arith) })
  ]
]
