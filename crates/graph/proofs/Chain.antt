-- `induces adj along_path` by recursion on the list: each atom is bonded to the next, and to no later one.
-- A chordless list followed by another is chordless exactly when both are, the seam is a bond, and no other pair meets.
use Prim.Native.Nat.{ℕ, zero, suc, ◌<◌}
use mathlib.Core.Path.{◌≡◌, sym, ◌∙◌}
use mathlib.Core.Bool.{true, false}
use mathlib.Core.List.{List, [], ◌∷◌, ◌++◌}
use mathlib.Core.Logic.{◌≢◌, ◌↔◌}
use native.Mathlib.Omega.{arith}
use native.Mathlib.Nat.{not-suc-le-zero, le_of_suc-le-suc}
use lib.ListN.{length, get_or}
use lib.Dec.{eqb-suc-suc}
use borrow.Author.Tests.{ne_eqb}
use Rattle.graph.specs.Chordless.{Adjacency, induces, along_path}
use Rattle.graph.proofs.All.{All, none, ◌◁◌, all_head, all_tail, all_append, all_left, all_right, all-at, all_of}
use Rattle.graph.proofs.Facts.{Distinct, Bonds, induces-distinct, induces-bonds, induces-of}

-- different and not bonded
abbrev pub Off : Adjacency → ℕ → ℕ → Type 0
Off adj x u = (x ≢ u) × (adj x u ≡ false)

-- different atoms, consecutive ones bonded and no other two
abbrev pub Chordless : Adjacency → List ℕ → Type 0
Chordless adj [] = Unit {0}
Chordless adj (x ∷ []) = Unit {0}
Chordless adj (x ∷ y ∷ xs) = (x ≢ y) × (adj x y ≡ true) × All (Off adj x) xs × Chordless adj (y ∷ xs)

-- v differs from every atom of p, is bonded to the last and to no other
abbrev pub Follows : Adjacency → List ℕ → ℕ → Type 0
Follows adj [] v = Unit {0}
Follows adj (x ∷ []) v = (x ≢ v) × (adj x v ≡ true)
Follows adj (x ∷ y ∷ p) v = Off adj x v × Follows adj (y ∷ p) v

module _ (adj : Adjacency) where
  -- ---- two lists joined

  pub glue :
      (p : List ℕ) (v : ℕ) (r : List ℕ) → Chordless adj p → Follows adj p v → All (λ x. All (Off adj x) r) p →
      Chordless adj (v ∷ r) → Chordless adj (p ++ v ∷ r)
  glue [] v r c f a d = d
  glue (x ∷ []) v r c (differ, bonded) (x-off ◁ none) d = (differ, bonded, x-off, d)
  glue (x ∷ y ∷ p) v r (differ, bonded, off, chain) (v-off, f) (x-off ◁ a) d =
      (differ, bonded, all_append off (v-off ◁ x-off), glue (y ∷ p) v r chain f a d)

  pub glue-left : (p : List ℕ) (v : ℕ) (r : List ℕ) → Chordless adj (p ++ v ∷ r) → Chordless adj p
  glue-left [] v r c = tt
  glue-left (x ∷ []) v r c = tt
  glue-left (x ∷ y ∷ p) v r (differ, bonded, off, chain) =
      (differ, bonded, all_left p (v ∷ r) off, glue-left (y ∷ p) v r chain)

  pub glue-right : (p : List ℕ) (v : ℕ) (r : List ℕ) → Chordless adj (p ++ v ∷ r) → Chordless adj (v ∷ r)
  glue-right [] v r c = c
  glue-right (x ∷ []) v r (differ, bonded, off, chain) = chain
  glue-right (x ∷ y ∷ p) v r (differ, bonded, off, chain) = glue-right (y ∷ p) v r chain

  pub glue-follows : (p : List ℕ) (v : ℕ) (r : List ℕ) → Chordless adj (p ++ v ∷ r) → Follows adj p v
  glue-follows [] v r c = tt
  glue-follows (x ∷ []) v r (differ, bonded, off, chain) = (differ, bonded)
  glue-follows (x ∷ y ∷ p) v r (differ, bonded, off, chain) =
      (all_head (all_right p off), glue-follows (y ∷ p) v r chain)

  pub glue-off : (p : List ℕ) (v : ℕ) (r : List ℕ) → Chordless adj (p ++ v ∷ r) → All (λ x. All (Off adj x) r) p
  glue-off [] v r c = none
  glue-off (x ∷ []) v r (differ, bonded, off, chain) = off ◁ none
  glue-off (x ∷ y ∷ p) v r (differ, bonded, off, chain) = all_tail (all_right p off) ◁ glue-off (y ∷ p) v r chain

  pub glue-iff :
      (p : List ℕ) (v : ℕ) (r : List ℕ) →
      Chordless adj (p ++ v ∷ r) ↔
      (Chordless adj p × Follows adj p v × All (λ x. All (Off adj x) r) p × Chordless adj (v ∷ r))
  glue-iff p v r = (
    λ c. (glue-left p v r c, glue-follows p v r c, glue-off p v r c, glue-right p v r c),
    λ (left, follows, off, right). glue p v r left follows off right,
  )

  -- ---- the test `induces`

  pub chordless-facts : (xs : List ℕ) → Distinct xs → Bonds adj along_path xs → Chordless adj xs
  chordless-facts [] d b = tt
  chordless-facts (x ∷ []) d b = tt
  chordless-facts (x ∷ y ∷ xs) d b = (
    d 0 1 (omega arith) (omega arith),
    b 0 1 (omega arith) (omega arith),
    all_of xs off,
    chordless-facts (y ∷ xs) (λ i j h k. d (suc i) (suc j) (omega arith) (omega arith)) later,
  )
    where
      off : (i : ℕ) → i < length xs → Off adj x (get_or xs i 0)
      off i h =
          let not-next = ne_eqb (suc (suc i)) 1 (omega arith) in
          (d 0 (suc (suc i)) (omega arith) (omega arith), b 0 (suc (suc i)) (omega arith) (omega arith) ∙ not-next)

      later : Bonds adj along_path (y ∷ xs)
      later i j h k = b (suc i) (suc j) (omega arith) (omega arith) ∙ eqb-suc-suc j (suc i)

  pub chordless-distinct : (xs : List ℕ) → Chordless adj xs → Distinct xs
  chordless-distinct [] c i j h k = absurd (not-suc-le-zero k)
  chordless-distinct (x ∷ []) c i j h k = absurd (omega arith)
  chordless-distinct (x ∷ y ∷ xs) c zero zero h k = absurd (not-suc-le-zero h)
  chordless-distinct (x ∷ y ∷ xs) (differ, bonded, off, chain) zero (suc zero) h k = differ
  chordless-distinct (x ∷ y ∷ xs) (differ, bonded, off, chain) zero (suc (suc j)) h k =
      (all-at off j (le_of_suc-le-suc (le_of_suc-le-suc k))).0
  chordless-distinct (x ∷ y ∷ xs) c (suc i) zero h k = absurd (not-suc-le-zero h)
  chordless-distinct (x ∷ y ∷ xs) (differ, bonded, off, chain) (suc i) (suc j) h k =
      chordless-distinct (y ∷ xs) chain i j (le_of_suc-le-suc h) (le_of_suc-le-suc k)

  pub chordless-bonds : (xs : List ℕ) → Chordless adj xs → Bonds adj along_path xs
  chordless-bonds [] c i j h k = absurd (not-suc-le-zero k)
  chordless-bonds (x ∷ []) c i j h k = absurd (omega arith)
  chordless-bonds (x ∷ y ∷ xs) c zero zero h k = absurd (not-suc-le-zero h)
  chordless-bonds (x ∷ y ∷ xs) (differ, bonded, off, chain) zero (suc zero) h k = bonded
  chordless-bonds (x ∷ y ∷ xs) (differ, bonded, off, chain) zero (suc (suc j)) h k =
      (all-at off j (le_of_suc-le-suc (le_of_suc-le-suc k))).1 ∙ sym (ne_eqb (suc (suc j)) 1 (omega arith))
  chordless-bonds (x ∷ y ∷ xs) c (suc i) zero h k = absurd (not-suc-le-zero h)
  chordless-bonds (x ∷ y ∷ xs) (differ, bonded, off, chain) (suc i) (suc j) h k =
      chordless-bonds (y ∷ xs) chain i j (le_of_suc-le-suc h) (le_of_suc-le-suc k) ∙ sym (eqb-suc-suc j (suc i))

  pub chordless-iff : (xs : List ℕ) → (induces adj along_path xs ≡ true) ↔ Chordless adj xs
  chordless-iff xs = (
    λ e. chordless-facts xs (induces-distinct adj along_path xs e) (induces-bonds adj along_path xs e),
    λ c. induces-of adj along_path xs (chordless-distinct xs c) (chordless-bonds xs c),
  )
