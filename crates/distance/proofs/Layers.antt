-- Layers around an atom t: `front` are the atoms at distance d, and `unseen` those that no list of d bonds or fewer
-- leads from. By the next layer one round more; an empty layer is the last.
use Prim.Native.Nat.{ℕ, zero, suc, ◌≤◌, ◌<◌}
use native.Mathlib.Decide.{ℕ_discrete}
use native.Mathlib.Omega.{arith}
use mathlib.Core.Path.{◌≡◌, sym, ◌∙◌}
use mathlib.Core.Bool.{Bool, true, false, ◌&&◌, ◌||◌, not}
use mathlib.Core.Logic.{inl, inr}
use lib.Dec.{leb, eqb}
use borrow.Author.Tests.{le-leb, leb-true, eq-eqb, eqb-true, eqb-false, not-true}
use Rattle.graph.specs.Chordless.{Adjacency}
use Rattle.graph.proofs.Below.{clash, false_of, not-of, and_parts, and_both}
use Rattle.enumeration.proofs.Basics.{or-either, or_left, or_right}
use Rattle.chordless.specs.Distance.{Atom, Far, ways}
use Rattle.chordless.specs.Reach.{Symmetric}
use Rattle.chordless.proofs.Routes.{none_of, ways-here, here-ways, ways-step}
use Rattle.chordless.proofs.Distances.{far-has, nearest}
use Rattle.atomset.proofs.Size.{size, smaller}
use Rattle.distance.specs.Layers.{NextLayer}

-- no list of d bonds or fewer leads from v to t
abbrev pub Beyond : ℕ → Adjacency → ℕ → ℕ → ℕ → Type 0
Beyond n adj t d v = (e : ℕ) → e ≤ d → ways n adj t e v ≡ 0

pub record Layers (n : ℕ) (adj : Adjacency) (t d : ℕ) (front unseen : ℕ → Bool) : Type 0 where
  pub front_atom : (v : ℕ) → front v ≡ true → Atom n v
  pub front_far : (v : ℕ) → front v ≡ true → Far n adj t d v
  pub front_every : (v : ℕ) → Atom n v → Far n adj t d v → front v ≡ true
  pub unseen_atom : (v : ℕ) → unseen v ≡ true → Atom n v
  pub unseen_far : (v : ℕ) → unseen v ≡ true → Beyond n adj t d v
  pub unseen_every : (v : ℕ) → Atom n v → Beyond n adj t d v → unseen v ≡ true

-- ---- at distance 0 is t alone

module _ {n : ℕ} {adj : Adjacency} {t : ℕ} {front unseen : ℕ → Bool} where
  pub layers-start :
      Atom n t → ((a : ℕ) → unseen a ≡ ((leb 1 a && leb a n) && not (eqb a t))) → ((a : ℕ) → front a ≡ eqb a t) →
      Layers n adj t 0 front unseen
  layers-start atom unseen-is front-is = record {
    front_atom = λ v e. let same : v ≡ t = eqb-true v t (sym (front-is v) ∙ e) in rw same atom;
    front_far = λ v e.
        let same : v ≡ t = eqb-true v t (sym (front-is v) ∙ e) in
        record { joined = ways-here n adj t same; no_nearer = λ d h. absurd (omega arith) };
    front_every = λ v at far. front-is v ∙ eq-eqb v t (here-ways n adj t far.joined);
    unseen_atom = λ v e.
        let (low, high) = and_parts (leb 1 v) (leb v n) (parts v e).0 in
        record { low = leb-true 1 v low; high = leb-true v n high };
    unseen_far = λ v e d h.
        let same : d ≡ 0 = omega arith in
        let other = eqb-false v t (not-true (eqb v t) (parts v e).1) in
        rw same (none_of (ways n adj t 0 v) (λ some. other (here-ways n adj t some)));
    unseen_every = λ v at none.
        let other =
        false_of (eqb v t) (λ e. omega (arith, none 0 (omega arith), ways-here n adj t (eqb-true v t e))) in
        rw (unseen-is v, le-leb 1 v at.low, le-leb v n at.high, other);
  }
    where
      parts : (v : ℕ) → unseen v ≡ true → (leb 1 v && leb v n ≡ true) × (not (eqb v t) ≡ true)
      parts v e = and_parts (leb 1 v && leb v n) (not (eqb v t)) (sym (unseen-is v) ∙ e)

-- ---- the next layer

module _
    {n : ℕ} {adj : Adjacency} {t d : ℕ} {front unseen found : ℕ → Bool} (l : Layers n adj t d front unseen)
    (both_ways : Symmetric adj) (next : NextLayer adj front unseen found) where
  pub found-far : (v : ℕ) → found v ≡ true → Far n adj t (suc d) v
  found-far v e =
      let (x, here, bond) = next.from v e in
      record {
        joined = ways-step n adj t d v (l.front_atom x here) (both_ways v x ∙ bond) (l.front_far x here).joined;
        no_nearer = λ k h. l.unseen_far v (next.fresh v e) k (omega arith);
      }

  pub found-every : (v : ℕ) → Atom n v → Far n adj t (suc d) v → found v ≡ true
  found-every v at far =
      let (x, x-at, bond, x-far) = far-has far in
      next.every x v (l.front_every x x-at x-far) (both_ways x v ∙ bond)
      (l.unseen_every v at (λ e h. far.no_nearer e (omega arith)))

  -- an atom that is not in it is not joined by one bond more
  beyond-more : (v : ℕ) → unseen v ≡ true → found v ≡ false → Beyond n adj t (suc d) v
  beyond-more v is-unseen not_found e h = elim (nearest n adj t (suc d) v) [
    | inl none ↦ none e h
    | inr (k, within, far) ↦ elim (ℕ_discrete k (suc d)) [
      | yes q ↦
          let far-next : Far n adj t (suc d) v = rw q at far in
          absurd (clash (found v) (found-every v (l.unseen_atom v is-unseen) far-next) not_found)
      | no q ↦ absurd (omega (arith, far.joined, l.unseen_far v is-unseen k (omega arith)))
    ]
  ]

  pub layers-next :
      {further : ℕ → Bool} → ((a : ℕ) → further a ≡ (unseen a && not (found a))) → Layers n adj t (suc d) found further
  layers-next {further} further-is = record {
    front_atom = λ v e. l.unseen_atom v (next.fresh v e);
    front_far = found-far;
    front_every = found-every;
    unseen_atom = λ v e. l.unseen_atom v (parts v e).0;
    unseen_far = λ v e. beyond-more v (parts v e).0 (not-true (found v) (parts v e).1);
    unseen_every = λ v at none.
        let not_found =
        false_of (found v) (λ e. absurd (omega (arith, (found-far v e).joined, none (suc d) (omega arith)))) in
        further-is v
        ∙ and_both (unseen v) (not (found v)) (l.unseen_every v at (λ e h. none e (omega arith)))
        (not-of (found v) not_found);
  }
    where
      parts : (v : ℕ) → further v ≡ true → (unseen v ≡ true) × (not (found v) ≡ true)
      parts v e = and_parts (unseen v) (not (found v)) (sym (further-is v) ∙ e)

  -- fewer atoms are left
  pub layers-fewer :
      n ≤ 128 → {further : ℕ → Bool} → ((a : ℕ) → further a ≡ (unseen a && not (found a))) → {x : ℕ} → front x ≡ true →
      size (λ a. further a || found a) 128 < size (λ a. unseen a || front a) 128
  layers-fewer few {further} further-is {x} here =
      smaller inside (λ a e. or_left (unseen a) (front a) (was-unseen a e)) (or_right (unseen x) (front x) here) gone
    where
      inside : (a : ℕ) → unseen a || front a ≡ true → (1 ≤ a) × (a ≤ 128)
      inside a e = elim (or-either (unseen a) (front a) e) [
        | inl h ↦ let at = l.unseen_atom a h in (at.low, omega (arith, at.high))
        | inr h ↦ let at = l.front_atom a h in (at.low, omega (arith, at.high))
      ]

      was-unseen : (a : ℕ) → further a || found a ≡ true → unseen a ≡ true
      was-unseen a e = elim (or-either (further a) (found a) e) [
        | inl h ↦ (and_parts (unseen a) (not (found a)) (sym (further-is a) ∙ h)).0
        | inr h ↦ next.fresh a h
      ]

      gone : further x || found x ≡ false
      gone =
          false_of (further x || found x)
          (λ e. omega (arith, (l.front_far x here).joined, l.unseen_far x (was-unseen x e) d (omega arith)))

-- ---- an empty layer

module _
    {n : ℕ} {adj : Adjacency} {t d : ℕ} {front unseen : ℕ → Bool} (l : Layers n adj t d front unseen)
    (empty : (a : ℕ) → front a ≡ false) where
  no_last : {e v : ℕ} → e ≡ d → Atom n v → Far n adj t e v → ⊥
  no_last {e} {v} q at far = clash (front v) (l.front_every v at (rw q at far)) (empty v)

  -- no atom is further away
  pub none-farther : (e v : ℕ) → d ≤ e → Atom n v → Far n adj t e v → ⊥
  none-farther zero v h at far = no_last (omega arith) at far
  none-farther (suc e) v h at far = elim (ℕ_discrete (suc e) d) [
    | yes q ↦ no_last q at far
    | no q ↦
        let (a, a_at, bond, a-far) = far-has far in
        none-farther e a (omega arith) a_at a-far
  ]
