-- Distances from an atom t, layer by layer: a layer is the atoms at one distance, and the next one the atoms bonded to
-- it that are in no layer yet. What the parts of `distance` ask and tell.
use Rattle.std.specs.Prelude.{ℕ, ◌≤◌, ◌≡◌, Bool, true, ◌&&◌, cond, List, length}
use Rattle.graph.specs.Chordless.{Adjacency}
use Rattle.chordless.specs.Distance.{Atom}
use Rattle.chordless.specs.Reach.{Symmetric}
use Rattle.atomset.specs.Set.{linked_by}

-- distances to atom t can be measured: at most 128 atoms, bonds both ways
pub record Measured (n : ℕ) (adj : Adjacency) (t : ℕ) : Type 0 where
  pub few : n ≤ 128
  pub both_ways : Symmetric adj
  pub atom : Atom n t

-- the atoms of `unseen` that are bonded to an atom of `front`
pub record NextLayer (adj : Adjacency) (front unseen found : ℕ → Bool) : Type 0 where
  pub fresh : (a : ℕ) → found a ≡ true → unseen a ≡ true
  pub from : (a : ℕ) → found a ≡ true → (x : ℕ) × (front x ≡ true) × (adj x a ≡ true)
  pub every : (x a : ℕ) → front x ≡ true → adj x a ≡ true → unseen a ≡ true → found a ≡ true

-- the row of each atom of `found` becomes its bonds to atoms of `front`; the other rows stay
pub record RowsKept (adj : Adjacency) (front found : ℕ → Bool) (old new : List ℕ) : Type 0 where
  pub size : length new ≡ 256
  pub bonds : (a b : ℕ) → linked_by new a b ≡ cond (found a) (adj a b && front b) (linked_by old a b)
