-- Rings and paths have at most n atoms, all from 1 to n, and none begins another: from the laws of their definitions.
-- So a word is listed exactly when it is one, and a non-empty p is open exactly when some p ++ a ∷ r is one, in the
-- list of those of at most k atoms when it has no more.
use Prim.Native.Nat.{ℕ, ◌≤◌, ◌<◌}
use mathlib.Core.Path.{◌≡◌}
use mathlib.Core.Bool.{true, false}
use mathlib.Core.List.{List, ◌∷◌, ◌++◌, Memᴰ}
use mathlib.Core.Logic.{◌↔◌}
use native.Mathlib.Omega.{arith}
use lib.ListN.{length, get_or}
use Rattle.graph.specs.Chordless.{Adjacency, is_ring, is_path}
use Rattle.graph.proofs.Below.{false_of}
use Rattle.graph.proofs.Pigeon.{ring_long, ring-short, ring-range, ring-stops, path-long, path-short, path-range, path-stops}
use Rattle.enumeration.specs.Words.{begins, members, is_open}
use Rattle.enumeration.proofs.Order.{begins-rest}
use Rattle.chordless.specs.Families.{rings, paths, up_to}
use Rattle.chordless.proofs.Members.{Bounded, in_list}
use Rattle.chordless.proofs.UpTo.{upto-open}

-- ---- rings

module _ (n : ℕ) (adj : Adjacency) where
  pub rings-bounded : Bounded (rings n adj)
  rings-bounded w e = (ring-short n adj w e, ring-range n adj w e)

  pub rings-sizes :
      (w : List ℕ) → is_ring n adj w ≡ true →
      (1 ≤ length w) × (length w ≤ n) × ((i : ℕ) → i < length w → (1 ≤ get_or w i 0) × (get_or w i 0 ≤ n))
  rings-sizes w e = let l = ring_long n adj w e in (omega arith, ring-short n adj w e, ring-range n adj w e)

  -- no ring begins another
  pub rings-stop : (v w : List ℕ) → is_ring n adj v ≡ true → is_ring n adj w ≡ true → begins v w ≡ false
  rings-stop v w e f = false_of (begins v w) stopped
    where
      stopped : begins v w ≡ true → ⊥
      stopped begun =
          let (a, r, shape) = begins-rest v w begun in
          ring-stops n adj v a r e (rw shape at f)

  pub rings-list : (w : List ℕ) → (is_ring n adj w ≡ true) ↔ Memᴰ w (members (rings n adj))
  rings-list w = in_list (rings n adj) rings-bounded w

  pub rings-open :
      (k x : ℕ) (p : List ℕ) →
      (is_open (up_to k (rings n adj)) (x ∷ p) ≡ true) ↔
      ((a : ℕ) × (r : List ℕ) × (is_ring n adj (x ∷ p ++ a ∷ r) ≡ true) × (length (x ∷ p ++ a ∷ r) ≤ k))
  rings-open k x p = upto-open k (rings n adj) rings-bounded x p

-- ---- paths

module _ (n : ℕ) (adj : Adjacency) (s t : ℕ) where
  pub paths-bounded : Bounded (paths n adj s t)
  paths-bounded w e = (path-short n adj s t w e, path-range n adj s t w e)

  pub paths-sizes :
      (w : List ℕ) → is_path n adj s t w ≡ true →
      (1 ≤ length w) × (length w ≤ n) × ((i : ℕ) → i < length w → (1 ≤ get_or w i 0) × (get_or w i 0 ≤ n))
  paths-sizes w e = (path-long n adj s t w e, path-short n adj s t w e, path-range n adj s t w e)

  -- no path begins another
  pub paths-stop : (v w : List ℕ) → is_path n adj s t v ≡ true → is_path n adj s t w ≡ true → begins v w ≡ false
  paths-stop v w e f = false_of (begins v w) stopped
    where
      stopped : begins v w ≡ true → ⊥
      stopped begun =
          let (a, r, shape) = begins-rest v w begun in
          path-stops n adj s t v a r e (rw shape at f)

  pub paths-list : (w : List ℕ) → (is_path n adj s t w ≡ true) ↔ Memᴰ w (members (paths n adj s t))
  paths-list w = in_list (paths n adj s t) paths-bounded w

  pub paths-open :
      (k x : ℕ) (p : List ℕ) →
      (is_open (up_to k (paths n adj s t)) (x ∷ p) ≡ true) ↔
      ((a : ℕ) × (r : List ℕ) × (is_path n adj s t (x ∷ p ++ a ∷ r) ≡ true) × (length (x ∷ p ++ a ∷ r) ≤ k))
  paths-open k x p = upto-open k (paths n adj s t) paths-bounded x p
