-- What one backward sweep finds: of the atoms wanted, those from which a target is reached through free atoms in at
-- most so many steps.
use Rattle.std.specs.Prelude.{ℕ, ◌+◌, ◌*◌, ◌<◌, ◌≡◌, Bool, true, List, ◌↔◌}
use Rattle.graph.specs.Chordless.{Adjacency}
use Rattle.molecule.specs.Record.{bit}
use Rattle.chordless.specs.Reach.{Reaches}
use Rattle.atomset.specs.Set.{has}

-- S holds exactly for those atoms, in at most d steps
abbrev pub Reached : Adjacency → (ℕ → Bool) → (ℕ → Bool) → ℕ → (ℕ → Bool) → (ℕ → Bool) → Type 0
Reached adj free target d want S = (v : ℕ) → (S v ≡ true) ↔ ((want v ≡ true) × Reaches adj free target d v)

-- The atoms bonded to an atom of a word: bit j of word k stands for atom 64 × k + j + 1
pub record NearWord (adj : Adjacency) (word k : ℕ) (near : List ℕ) : Type 0 where
  pub only : (a : ℕ) → has near a ≡ true → (j : ℕ) × (j < 64) × (bit word j ≡ true) × (adj (64 * k + j + 1) a ≡ true)
  pub every : (j a : ℕ) → bit word j ≡ true → adj (64 * k + j + 1) a ≡ true → has near a ≡ true
