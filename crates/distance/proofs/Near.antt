-- The next layer, from the atoms bonded to each word of `front`.
-- An atom is a bit of one of the two words.
use Prim.Native.Nat.{ℕ, ◌+◌, ◌-◌, ◌*◌, ◌≤◌, ◌<◌}
use native.Mathlib.Decide.{dec_lt}
use native.Mathlib.Omega.{arith}
use mathlib.Core.Path.{◌≡◌, sym, ◌∙◌}
use mathlib.Core.Bool.{true, ◌&&◌, ◌||◌}
use mathlib.Core.List.{List}
use mathlib.Core.Logic.{inl, inr}
use lib.ListN.{get_or}
use Rattle.graph.specs.Chordless.{Adjacency}
use Rattle.graph.proofs.Below.{and_parts, and_both}
use Rattle.enumeration.proofs.Basics.{or-either, or_left, or_right}
use Rattle.atomset.specs.Set.{has}
use Rattle.atomset.proofs.Members.{has_word, has-range}
use Rattle.sweep.specs.Swept.{NearWord}
use Rattle.distance.specs.Layers.{NextLayer}

module _
    {adj : Adjacency} {low high : List ℕ} (front unseen near found : List ℕ)
    (near-low : NearWord adj (get_or front 0 0) 0 low)
    (near-high : NearWord adj (get_or front 1 0) 1 high) (near-is : (a : ℕ) → has near a ≡ (has low a || has high a))
    (found-is : (a : ℕ) → has found a ≡ (has unseen a && has near a)) where
  from-word :
      {word : List ℕ} {a : ℕ} (k : ℕ) → k < 2 → NearWord adj (get_or front k 0) k word → has word a ≡ true →
      (x : ℕ) × (has front x ≡ true) × (adj x a ≡ true)
  from-word {a = a} k inside w e =
      let (j, below, set, bond) = w.only a e in
      (64 * k + j + 1, has_word front k j inside below ∙ set, bond)

  to_word :
      {word : List ℕ} {x a : ℕ} (k : ℕ) → k < 2 → NearWord adj (get_or front k 0) k word → 64 * k < x →
      x ≤ 64 * k + 64 → has front x ≡ true → adj x a ≡ true → has word a ≡ true
  to_word {x = x} {a} k inside w above within e bond =
      let j = x - 64 * k - 1 in
      let at : x ≡ 64 * k + j + 1 = omega arith in
      w.every j a (sym (has_word front k j inside (omega arith)) ∙ (rw at at e)) (rw at at bond)

  near-front : (x a : ℕ) → has front x ≡ true → adj x a ≡ true → has near a ≡ true
  near-front x a e bond =
      let range = has-range front x e in
      near-is a ∙ elim (dec_lt 64 x) [
        | no h ↦ or_left (has low a) (has high a) (to_word 0 (omega arith) near-low (omega arith) (omega arith) e bond)
        | yes h ↦
            or_right (has low a) (has high a) (to_word 1 (omega arith) near-high (omega arith) (omega arith) e bond)
      ]

  pub next-layer : NextLayer adj (has front) (has unseen) (has found)
  next-layer = record {
    fresh = λ a e. (parts a e).0;
    from = λ a e. elim (or-either (has low a) (has high a) (sym (near-is a) ∙ (parts a e).1)) [
      | inl h ↦ from-word 0 (omega arith) near-low h
      | inr h ↦ from-word 1 (omega arith) near-high h
    ];
    every = λ x a e bond free.
        found-is a ∙ and_both (has unseen a) (has near a) free (near-front x a e bond);
  }
    where
      parts : (a : ℕ) → has found a ≡ true → (has unseen a ≡ true) × (has near a ≡ true)
      parts a e = and_parts (has unseen a) (has near a) (sym (found-is a) ∙ e)
