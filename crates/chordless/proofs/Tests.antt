-- The tests of `Reach` on a beginning, atom by atom, and what they leave of a set of atoms that is handed on.
-- The facts of `Touch` turned back into equations; then by recursion on the atoms added.
use Prim.Native.Nat.{ℕ}
use mathlib.Core.Path.{◌≡◌}
use mathlib.Core.Bool.{Bool, true, ◌&&◌, not, and_assoc}
use mathlib.Core.List.{List, [], ◌∷◌}
use borrow.Author.Tests.{not-true}
use Rattle.graph.specs.Chordless.{Adjacency}
use Rattle.graph.proofs.Below.{and_parts, and_both, same_test, not-of}
use Rattle.graph.proofs.All.{none, ◌◁◌, all_head, all_tail}
use Rattle.chordless.specs.Reach.{clear, touches_only_last, touches_only_first, touches_only_ends}
use Rattle.chordless.specs.Steers.{without, along, last_after}
use Rattle.chordless.proofs.Touch.{clear-facts, clear_of, touches-facts, touches-of, first-facts, first_of, ends-facts, ends_of}

-- a test that passes where two tests do
same-both :
    (t a b : Bool) → (t ≡ true → (a ≡ true) × (b ≡ true)) → (a ≡ true → b ≡ true → t ≡ true) → t ≡ (a && b)
same-both t a b to back =
    same_test t (a && b) (λ e. let (p, q) = to e in and_both a b p q) (λ e. let (p, q) = and_parts a b e in back p q)

module _ (adj : Adjacency) where
  -- ---- the first atom and the others

  clear-one : (x u : ℕ) → clear adj (x ∷ []) u ≡ not (adj x u)
  clear-one x u =
      same_test (clear adj (x ∷ []) u) (not (adj x u))
      (λ e. not-of (adj x u) (all_head (clear-facts adj (x ∷ []) u e)))
      (λ e. clear_of adj (x ∷ []) u (not-true (adj x u) e ◁ none))

  clear_first : (x : ℕ) (p : List ℕ) (u : ℕ) → clear adj (x ∷ p) u ≡ (not (adj x u) && clear adj p u)
  clear_first x p u = same-both (clear adj (x ∷ p) u) (not (adj x u)) (clear adj p u) to back
    where
      to : clear adj (x ∷ p) u ≡ true → (not (adj x u) ≡ true) × (clear adj p u ≡ true)
      to e =
          let off = clear-facts adj (x ∷ p) u e in
          (not-of (adj x u) (all_head off), clear_of adj p u (all_tail off))

      back : not (adj x u) ≡ true → clear adj p u ≡ true → clear adj (x ∷ p) u ≡ true
      back e f = clear_of adj (x ∷ p) u (not-true (adj x u) e ◁ clear-facts adj p u f)

  touches-one : (x u : ℕ) → touches_only_last adj (x ∷ []) u ≡ adj x u
  touches-one x u =
      same_test (touches_only_last adj (x ∷ []) u) (adj x u) (touches-facts adj (x ∷ []) u) (touches-of adj (x ∷ []) u)

  touches-first :
      (x y : ℕ) (p : List ℕ) (u : ℕ) →
      touches_only_last adj (x ∷ y ∷ p) u ≡ (not (adj x u) && touches_only_last adj (y ∷ p) u)
  touches-first x y p u =
      same-both (touches_only_last adj (x ∷ y ∷ p) u) (not (adj x u)) (touches_only_last adj (y ∷ p) u) to back
    where
      to : touches_only_last adj (x ∷ y ∷ p) u ≡ true → (not (adj x u) ≡ true) ×
          (touches_only_last adj (y ∷ p) u ≡ true)
      to e =
          let (off, touches) = touches-facts adj (x ∷ y ∷ p) u e in
          (not-of (adj x u) off, touches-of adj (y ∷ p) u touches)

      back : not (adj x u) ≡ true → touches_only_last adj (y ∷ p) u ≡ true → touches_only_last adj (x ∷ y ∷ p) u ≡ true
      back e f = touches-of adj (x ∷ y ∷ p) u (not-true (adj x u) e, touches-facts adj (y ∷ p) u f)

  first-first : (s : ℕ) (p : List ℕ) (u : ℕ) → touches_only_first adj (s ∷ p) u ≡ (adj s u && clear adj p u)
  first-first s p u =
      same-both (touches_only_first adj (s ∷ p) u) (adj s u) (clear adj p u)
      (λ e. let (bonded, off) = first-facts adj s p u e in (bonded, clear_of adj p u off))
      (λ e f. first_of adj s p u e (clear-facts adj p u f))

  ends-first :
      (s a : ℕ) (p : List ℕ) (u : ℕ) →
      touches_only_ends adj (s ∷ a ∷ p) u ≡ (adj s u && touches_only_last adj (a ∷ p) u)
  ends-first s a p u =
      same-both (touches_only_ends adj (s ∷ a ∷ p) u) (adj s u) (touches_only_last adj (a ∷ p) u)
      (λ e. let (bonded, touches) = ends-facts adj s a p u e in (bonded, touches-of adj (a ∷ p) u touches))
      (λ e f. ends_of adj s a p u e (touches-facts adj (a ∷ p) u f))

  -- ---- a set handed on along the atoms r, from the atom x

  -- what of it touches the last atom alone
  pub along-touches :
      (x : ℕ) (set : ℕ → Bool) (r : List ℕ) (u : ℕ) →
      (set u && touches_only_last adj (x ∷ r) u) ≡ (along adj x set r u && adj (last_after x r) u)
  along-touches x set [] u = rw (touches-one x u)
  along-touches x set (v ∷ r) u =
      rw (touches-first x v r u) (rw (← (and_assoc (set u) (not (adj x u)) (touches_only_last adj (v ∷ r) u)))
      (along-touches v (without adj x set) r u))

  -- what of it no atom touches
  pub along-clear :
      (x : ℕ) (set : ℕ → Bool) (r : List ℕ) (u : ℕ) →
      (set u && clear adj (x ∷ r) u) ≡ without adj (last_after x r) (along adj x set r) u
  along-clear x set [] u = rw (clear-one x u)
  along-clear x set (v ∷ r) u =
      rw (clear_first x (v ∷ r) u) (rw (← (and_assoc (set u) (not (adj x u)) (clear adj (v ∷ r) u)))
      (along-clear v (without adj x set) r u))

  -- ---- the same for an atom s before x that is to be touched

  module _ (s x : ℕ) (set : ℕ → Bool) (r : List ℕ) (u : ℕ) where
    -- bonded to s and to the last atom
    pub ends-along :
        (set u && touches_only_ends adj (s ∷ x ∷ r) u) ≡
        (along adj x (λ w. set w && adj s w) r u && adj (last_after x r) u)
    ends-along =
        rw (ends-first s x r u) (rw (← (and_assoc (set u) (adj s u) (touches_only_last adj (x ∷ r) u)))
        (along-touches x (λ w. set w && adj s w) r u))

    -- bonded to s alone
    pub first-along :
        (set u && touches_only_first adj (s ∷ x ∷ r) u) ≡
        without adj (last_after x r) (along adj x (λ w. set w && adj s w) r) u
    first-along =
        rw (first-first s (x ∷ r) u) (rw (← (and_assoc (set u) (adj s u) (clear adj (x ∷ r) u)))
        (along-clear x (λ w. set w && adj s w) r u))
