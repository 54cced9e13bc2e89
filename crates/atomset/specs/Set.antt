-- Sets of atoms from 1 to 128, as two words of 64 bits, and the words of a molecule's rows.
-- Bit j of word w stands for atom 64 × w + j + 1 (document 02, F-3).
use Rattle.std.specs.Prelude.{ℕ, ◌+◌, ◌-◌, ◌*◌, ◌/◌, ◌%◌, ◌≤◌, ◌<◌, ◌≡◌, Bool, true, false, ◌&&◌, not, List, get_or, eqb}
use Rattle.graph.specs.Chordless.{Adjacency}
use Rattle.molecule.specs.Record.{bit, cell, is_atom}

-- the set holds atom a; no set holds atom 0, or an atom above 128
unfoldable pub has : List ℕ → ℕ → Bool
has words a = is_atom 128 a && bit (get_or words ((a - 1) / 64) 0) ((a - 1) % 64)

-- the set holds no atom
unfoldable pub holds_none : List ℕ → Bool
holds_none words = eqb (get_or words 0 0) 0 && eqb (get_or words 1 0) 0

-- what the answer of the test of emptiness tells
pub record Emptiness (words : List ℕ) (empty : Bool) : Type 0 where
  pub test : empty ≡ holds_none words
  pub none : empty ≡ true → (a : ℕ) → has words a ≡ false
  pub some : empty ≡ false → (a : ℕ) × (has words a ≡ true)

-- the lowest atom of a set
pub record Lowest (words : List ℕ) (v : ℕ) : Type 0 where
  pub low : 1 ≤ v
  pub high : v ≤ 128
  pub member : has words v ≡ true
  pub least : (a : ℕ) → has words a ≡ true → v ≤ a

-- the set has a lowest atom, and the rest is the set without it
pub record LowestLeft (words rest : List ℕ) : Type 0 where
  pub taken : ℕ
  pub lowest : Lowest words taken
  pub others : (v : ℕ) → Lowest words v → (a : ℕ) → has rest a ≡ (has words a && not (eqb a v))

-- what the answer tells whether a set has at most one atom
pub record AtMostOne (words : List ℕ) (answer : Bool) : Type 0 where
  pub sole : answer ≡ true → (u v : ℕ) → has words u ≡ true → has words v ≡ true → u ≡ v
  pub two : answer ≡ false → (u v : ℕ) × (has words u ≡ true) × (has words v ≡ true) × (u ≡ v → ⊥)

-- the lowest bit of a word
pub record LowestBit (word j : ℕ) : Type 0 where
  pub below : j < 64
  pub set : bit word j ≡ true
  pub least : (i : ℕ) → bit word i ≡ true → j ≤ i

-- The word table: words 2 × (a - 1) and 2 × (a - 1) + 1 are the
-- row of atom a, a set. Atoms a and b are bonded when b is in it
unfoldable pub linked_by : List ℕ → Adjacency
linked_by table a b = is_atom 128 a && is_atom 128 b && bit (get_or table (2 * (a - 1) + (b - 1) / 64) 0) ((b - 1) % 64)

-- the table has the bits of the rows
abbrev pub WordsOf : List ℕ → List ℕ → Type 0
WordsOf rows table = (a b : ℕ) → 1 ≤ a → a ≤ 128 → 1 ≤ b → b ≤ 128 → linked_by table a b ≡ cell rows (a - 1) (b - 1)

-- the low `count` bits of a number are those of the bytes from place `at` on, the lowest first
unfoldable pub Reads : List ℕ → ℕ → ℕ → ℕ → Type 0
Reads bytes at count word = (j : ℕ) → j < count → bit word j ≡ bit (get_or bytes (at + j / 8) 0) (j % 8)
