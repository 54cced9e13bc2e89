-- The tests of `Reach` as plain facts, by recursion on the beginning; how a beginning is joined to a chordless list.
-- No atom occurs twice in the joined list: an atom of a chordless list is told by the atom before it or after it.
use Prim.Native.Nat.{ℕ, zero, suc, ◌+◌, ◌≤◌, ◌<◌}
use mathlib.Core.Path.{◌≡◌, sym, ap, ◌∙◌}
use mathlib.Core.Bool.{Bool, true, false, ◌&&◌, ◌||◌, not, beq}
use mathlib.Core.List.{List, [], ◌∷◌, ◌++◌, append_assoc}
use mathlib.Core.Logic.{◌≢◌}
use native.Mathlib.Omega.{arith}
use native.Mathlib.Nat.{not-suc-le-zero, le_of_suc-le-suc}
use lib.ListN.{length, length-append}
use lib.Dec.{leb, ltb, eqb, eqb-suc-suc, eqb-suc-zero}
use borrow.Author.Tests.{ne_eqb, leb-true, le-leb, ltb-true, lt-ltb, not-true}
use Rattle.graph.specs.Every.{all_below}
use Rattle.graph.specs.Chordless.{Adjacency, atom_at}
use Rattle.graph.proofs.Below.{clash, and_parts, and_both, beq-true, beq_same, not-of, all_below-at, all_below-of}
use Rattle.graph.proofs.All.{All, none, ◌◁◌, all_head, all_tail, all_append, all_map, all_both, all-swap, all-at, all_of}
use Rattle.graph.proofs.Chain.{Off, Chordless, Follows, glue}
use Rattle.graph.proofs.Shape.{snoc-view}
use Rattle.chordless.specs.Reach.{Irreflexive, clear, touches_only_last, touches_only_first, touches_only_ends, free, closing}
use Rattle.chordless.proofs.Shortest.{stays_out, chain-tail}

-- u is bonded to no atom of p
abbrev pub Clear : Adjacency → List ℕ → ℕ → Type 0
Clear adj p u = All (λ x. adj x u ≡ false) p

-- v is bonded to the last atom of p and to no other
abbrev pub Touches : Adjacency → List ℕ → ℕ → Type 0
Touches adj [] v = Unit {0}
Touches adj (x ∷ []) v = adj x v ≡ true
Touches adj (x ∷ y ∷ p) v = (adj x v ≡ false) × Touches adj (y ∷ p) v

module _ (adj : Adjacency) where
  -- ---- the tests, place by place

  pub clear-facts : (p : List ℕ) (u : ℕ) → clear adj p u ≡ true → Clear adj p u
  unfolding clear
  clear-facts p u e =
      let at = all_below-at (length p) (λ k. not (adj (atom_at p k) u)) e in
      all_of p (λ i h. not-true (adj (atom_at p i) u) (at i h))

  pub clear_of : (p : List ℕ) (u : ℕ) → Clear adj p u → clear adj p u ≡ true
  unfolding clear
  clear_of p u a =
      all_below-of (length p) (λ k. not (adj (atom_at p k) u)) (λ i h. not-of (adj (atom_at p i) u) (all-at a i h))

  -- the bonds of the first k atoms of p to v are as `want` says
  abbrev Pattern : List ℕ → ℕ → ℕ → (ℕ → Bool) → Type 0
  Pattern p v k want = (i : ℕ) → i < k → adj (atom_at p i) v ≡ want i

  pattern-facts :
      (p : List ℕ) (v k : ℕ) (want : ℕ → Bool) →
      all_below k (λ i. beq (adj (atom_at p i) v) (want i)) ≡ true → Pattern p v k want
  pattern-facts p v k want e i h =
      beq-true (adj (atom_at p i) v) (want i) (all_below-at k (λ j. beq (adj (atom_at p j) v) (want j)) e i h)

  pattern-of :
      (p : List ℕ) (v k : ℕ) (want : ℕ → Bool) →
      Pattern p v k want → all_below k (λ i. beq (adj (atom_at p i) v) (want i)) ≡ true
  pattern-of p v k want f =
      all_below-of k (λ i. beq (adj (atom_at p i) v) (want i))
      (λ i h. beq_same (adj (atom_at p i) v) (want i) (f i h))

  -- ---- the last atom alone, the first alone, both ends

  touches-by : (p : List ℕ) (v : ℕ) → Pattern p v (length p) (λ i. eqb (suc i) (length p)) → Touches adj p v
  touches-by [] v f = tt
  touches-by (x ∷ []) v f = f 0 (omega arith)
  touches-by (x ∷ y ∷ p) v f = (
    f 0 (omega arith) ∙ ne_eqb 1 (suc (suc (length p))) (omega arith),
    touches-by (y ∷ p) v (λ i h. f (suc i) (omega arith) ∙ eqb-suc-suc (suc i) (suc (length p))),
  )

  touches_at : (p : List ℕ) (v : ℕ) → Touches adj p v → Pattern p v (length p) (λ i. eqb (suc i) (length p))
  touches_at [] v f i h = absurd (not-suc-le-zero h)
  touches_at (x ∷ []) v f zero h = f
  touches_at (x ∷ []) v f (suc i) h = absurd (not-suc-le-zero (le_of_suc-le-suc h))
  touches_at (x ∷ y ∷ p) v (off, touches) zero h = off ∙ sym (ne_eqb 1 (suc (suc (length p))) (omega arith))
  touches_at (x ∷ y ∷ p) v (off, touches) (suc i) h =
      touches_at (y ∷ p) v touches i (le_of_suc-le-suc h) ∙ sym (eqb-suc-suc (suc i) (suc (length p)))

  pub touches-facts : (p : List ℕ) (v : ℕ) → touches_only_last adj p v ≡ true → Touches adj p v
  unfolding touches_only_last
  touches-facts p v e = touches-by p v (pattern-facts p v (length p) (λ i. eqb (suc i) (length p)) e)

  pub touches-of : (p : List ℕ) (v : ℕ) → Touches adj p v → touches_only_last adj p v ≡ true
  unfolding touches_only_last
  touches-of p v f = pattern-of p v (length p) (λ i. eqb (suc i) (length p)) (touches_at p v f)

  pub first-facts :
      (s : ℕ) (p : List ℕ) (b : ℕ) → touches_only_first adj (s ∷ p) b ≡ true → (adj s b ≡ true) × Clear adj p b
  unfolding touches_only_first
  first-facts s p b e =
      let f = pattern-facts (s ∷ p) b (suc (length p)) (λ i. eqb i 0) e in
      (f 0 (omega arith), all_of p (λ i h. f (suc i) (omega arith) ∙ eqb-suc-zero i))

  pub first_of : (s : ℕ) (p : List ℕ) (b : ℕ) → adj s b ≡ true → Clear adj p b → touches_only_first adj (s ∷ p) b ≡ true
  unfolding touches_only_first
  first_of s p b e a = pattern-of (s ∷ p) b (suc (length p)) (λ i. eqb i 0) f
    where
      f : Pattern (s ∷ p) b (suc (length p)) (λ i. eqb i 0)
      f zero h = e
      f (suc i) h = all-at a i (le_of_suc-le-suc h) ∙ sym (eqb-suc-zero i)

  -- of k atoms, the first and the last
  abbrev ends : ℕ → ℕ → Bool
  ends k i = eqb i 0 || eqb (suc i) k

  ends-later : (i k : ℕ) → ends (suc k) (suc i) ≡ eqb (suc i) k
  ends-later i k = rw (eqb-suc-zero i, eqb-suc-suc (suc i) k)

  pub ends-facts :
      (s a : ℕ) (p : List ℕ) (v : ℕ) → touches_only_ends adj (s ∷ a ∷ p) v ≡ true →
      (adj s v ≡ true) × Touches adj (a ∷ p) v
  unfolding touches_only_ends
  ends-facts s a p v e =
      let k = suc (suc (length p)) in
      let f = pattern-facts (s ∷ a ∷ p) v k (ends k) e in
      (f 0 (omega arith), touches-by (a ∷ p) v (λ i h. f (suc i) (omega arith) ∙ ends-later i (suc (length p))))

  pub ends_of :
      (s a : ℕ) (p : List ℕ) (v : ℕ) → adj s v ≡ true → Touches adj (a ∷ p) v →
      touches_only_ends adj (s ∷ a ∷ p) v ≡ true
  unfolding touches_only_ends
  ends_of s a p v e t = pattern-of (s ∷ a ∷ p) v (suc (suc (length p))) (ends (suc (suc (length p)))) f
    where
      f : Pattern (s ∷ a ∷ p) v (suc (suc (length p))) (ends (suc (suc (length p))))
      f zero h = e
      f (suc i) h = touches_at (a ∷ p) v t i (le_of_suc-le-suc h) ∙ sym (ends-later i (suc (length p)))

  -- ---- free and closing atoms

  module _ (n low : ℕ) (p : List ℕ) (u : ℕ) where
    pub free-facts : free n adj low p u ≡ true → (low < u) × (u ≤ n) × Clear adj p u
    unfolding free
    free-facts e =
        let (bounds, is-clear) = and_parts (ltb low u && leb u n) (clear adj p u) e in
        let (above, range) = and_parts (ltb low u) (leb u n) bounds in
        (ltb-true low u above, leb-true u n range, clear-facts p u is-clear)

    pub free_of : low < u → u ≤ n → Clear adj p u → free n adj low p u ≡ true
    unfolding free
    free_of h g a =
        let bounds = and_both (ltb low u) (leb u n) (lt-ltb low u h) (le-leb u n g) in
        and_both (ltb low u && leb u n) (clear adj p u) bounds (clear_of p u a)

  -- a free atom is not bonded to itself
  pub free-irreflexive :
      (n low : ℕ) (p : List ℕ) → Irreflexive n adj → (u : ℕ) → free n adj low p u ≡ true → adj u u ≡ false
  free-irreflexive n low p irr u e =
      let (above, range, off) = free-facts n low p u e in
      irr u (omega arith) range

  -- a list of free atoms
  module _ (n low : ℕ) (p : List ℕ) {q : List ℕ} where
    pub free-range : All (λ u. free n adj low p u ≡ true) q → All (λ u. (low < u) × (u ≤ n)) q
    free-range a = all_map (λ u e. let (above, range, off) = free-facts n low p u e in (above, range)) a

    pub free-clear : All (λ u. free n adj low p u ≡ true) q → All (λ u. Clear adj p u) q
    free-clear a = all_map (λ u e. (free-facts n low p u e).2) a

    pub free_all :
        All (λ u. (low < u) × (u ≤ n)) q → All (λ u. Clear adj p u) q → All (λ u. free n adj low p u ≡ true) q
    free_all a c = all_map one (all_both a c)
      where
        one : (u : ℕ) → ((low < u) × (u ≤ n)) × Clear adj p u → free n adj low p u ≡ true
        one u ((above, range), off) = free_of n low p u above range off

  module _ (n s : ℕ) (p : List ℕ) (a b : ℕ) where
    pub closing-facts : closing n adj (s ∷ p) a b ≡ true → (a < b) × (b ≤ n) × (adj s b ≡ true) × Clear adj p b
    unfolding closing
    closing-facts e =
        let (bounds, touches) = and_parts (ltb a b && leb b n) (touches_only_first adj (s ∷ p) b) e in
        let (above, range) = and_parts (ltb a b) (leb b n) bounds in
        let (bonded, off) = first-facts s p b touches in
        (ltb-true a b above, leb-true b n range, bonded, off)

    pub closing-of : a < b → b ≤ n → adj s b ≡ true → Clear adj p b → closing n adj (s ∷ p) a b ≡ true
    unfolding closing
    closing-of h g e c =
        let bounds = and_both (ltb a b) (leb b n) (lt-ltb a b h) (le-leb b n g) in
        and_both (ltb a b && leb b n) (touches_only_first adj (s ∷ p) b) bounds (first_of s p b e c)

  -- ---- an atom added

  pub follows_of : (p : List ℕ) (v : ℕ) → All (λ x. x ≢ v) p → Touches adj p v → Follows adj p v
  follows_of [] v a t = tt
  follows_of (x ∷ []) v (differ ◁ none) bonded = (differ, bonded)
  follows_of (x ∷ y ∷ p) v (differ ◁ a) (off, t) = ((differ, off), follows_of (y ∷ p) v a t)

  pub follows-touches : (p : List ℕ) (v : ℕ) → Follows adj p v → Touches adj p v
  follows-touches [] v f = tt
  follows-touches (x ∷ []) v (differ, bonded) = bonded
  follows-touches (x ∷ y ∷ p) v ((differ, off), f) = (off, follows-touches (y ∷ p) v f)

  pub follows-differ : (p : List ℕ) (v : ℕ) → Follows adj p v → All (λ x. x ≢ v) p
  follows-differ [] v f = none
  follows-differ (x ∷ []) v (differ, bonded) = differ ◁ none
  follows-differ (x ∷ y ∷ p) v ((differ, off), f) = differ ◁ follows-differ (y ∷ p) v f

  -- bonded from z, and not bonded from z: two atoms
  pub told-apart : (z x y : ℕ) → adj z x ≡ true → adj z y ≡ false → x ≢ y
  told-apart z x y p q e = clash (adj z x) p (rw e q)

  -- atoms that no atom of p meets
  pub off-clear : (p r : List ℕ) → All (λ x. All (Off adj x) r) p → All (λ u. Clear adj p u) r
  off-clear p r a = all-swap r (all_map (λ x b. all_map (λ u o. o.1) b) a)

  -- v touches only the last atom of a chordless y ∷ p, and is not y: then it is not in it
  pub fresh :
      (y : ℕ) (p : List ℕ) (v : ℕ) → y ≢ v → Chordless adj (y ∷ p) → Touches adj (y ∷ p) v → All (λ x. x ≢ v) (y ∷ p)
  fresh y [] v h c t = h ◁ none
  fresh y (z ∷ p) v h (differ, bonded, off, chain) (y-off, t) =
      h ◁ fresh z p v (told-apart y z v bonded y-off) chain t

  -- v touches the last atom of a beginning, and t none
  pub touch-apart : (x : ℕ) (p : List ℕ) (v t : ℕ) → Touches adj (x ∷ p) v → Clear adj (x ∷ p) t → v ≢ t
  touch-apart x [] v t f a = told-apart x v t f (all_head a)
  touch-apart x (y ∷ p) v t (off, touches) a = touch-apart y p v t touches (all_tail a)

  -- a beginning, then a chordless list from v to b through atoms that it does not meet, is chordless
  pub join :
      (p : List ℕ) (v : ℕ) (q : List ℕ) (b : ℕ) →
      Chordless adj p → Follows adj p v → Chordless adj (v ∷ q ++ b ∷ []) →
      All (λ u. Clear adj p u) q → Clear adj p b → All (λ x. x ≢ b) p →
      Chordless adj (p ++ v ∷ q ++ b ∷ [])
  join p v q b c f d a e h =
      let meets-none = all_map off (all_both (all_both (all-swap p a) e) h) in
      rw append_assoc (glue adj p v (q ++ b ∷ []) c f meets-none d)
    where
      off : (x : ℕ) → (All (λ u. adj x u ≡ false) q × (adj x b ≡ false)) × (x ≢ b) → All (Off adj x) (q ++ b ∷ [])
      off x ((q-off, b-off), differ) =
          let all-off : All (λ u. adj x u ≡ false) (q ++ b ∷ []) = all_append q-off (b-off ◁ none) in
          all_both (stays_out adj x b q differ (chain-tail adj v (q ++ b ∷ []) d) all-off) all-off

-- ---- lists seen from their end

-- what goes on p has a last atom
pub snoc-after : (p : List ℕ) (c : ℕ) (r : List ℕ) → (q : List ℕ) × (b : ℕ) × (p ++ c ∷ r ≡ p ++ q ++ b ∷ [])
snoc-after p c r =
    let (q, b, shape) = snoc-view c r in
    (q, b, ap (λ (l : List ℕ). p ++ l) shape ∙ sym (append_assoc p q (b ∷ [])))

-- p, v, then q and b, in the two ways that they are bracketed
pub regroup : (p : List ℕ) (v : ℕ) (q : List ℕ) (b : ℕ) → p ++ v ∷ [] ++ (q ++ b ∷ []) ≡ p ++ v ∷ q ++ b ∷ []
regroup p v q b = simp append_assoc

-- its atoms, counted
pub through-length :
    (p : List ℕ) (v : ℕ) (q : List ℕ) (b : ℕ) → length (p ++ v ∷ q ++ b ∷ []) ≡ suc (suc (length p + length q))
through-length p v q b = omega (arith, length-append (p ++ v ∷ q) (b ∷ []), length-append p (v ∷ q))

-- what goes on p and v has a last atom
pub snoc-through :
    (p : List ℕ) (v c : ℕ) (r : List ℕ) →
    (q : List ℕ) × (b : ℕ) × (p ++ v ∷ [] ++ c ∷ r ≡ p ++ v ∷ q ++ b ∷ [])
snoc-through p v c r =
    let (q, b, shape) = snoc-view c r in
    (q, b, ap (λ (l : List ℕ). p ++ v ∷ [] ++ l) shape ∙ regroup p v q b)
