-- What steers a search below a beginning: two sets of atoms that are handed on, smaller, to each longer beginning
-- (document 003, lemma 2). `goal` has the atoms that may close a member, `free` those that may stand between.
use Rattle.std.specs.Prelude.{ℕ, suc, ◌-◌, ◌≡◌, Bool, true, ◌&&◌, not, List, [], ◌∷◌, ◌++◌, ◌↔◌, length}
use Rattle.graph.specs.Chordless.{Adjacency}
use Rattle.enumeration.specs.Words.{Family, is_open}
use Rattle.chordless.specs.Reach.{Reaches}

-- the atoms of a set that are not bonded to x
abbrev pub without : Adjacency → ℕ → (ℕ → Bool) → ℕ → Bool
without adj x set u = set u && not (adj x u)

-- a set of a beginning whose last atom is x, after the atoms r are added: less what is bonded to x or to an atom of r,
-- the last one left out
abbrev pub along : Adjacency → ℕ → (ℕ → Bool) → List ℕ → ℕ → Bool
along adj x set [] = set
along adj x set (v ∷ r) = along adj v (without adj x set) r

-- the last atom then
abbrev pub last_after : ℕ → List ℕ → ℕ
last_after x [] = x
last_after x (v ∷ r) = last_after v r

-- v goes on a beginning whose last atom is x: a free atom bonded to x, from which an atom that may close a member is
-- reached in at most d steps through free atoms, none of them bonded to x
pub record Onward (adj : Adjacency) (x : ℕ) (goal free : ℕ → Bool) (d v : ℕ) : Type 0 where
  pub touches : (free v && adj x v) ≡ true
  pub reaches : Reaches adj (without adj x free) (without adj x goal) d v

-- The sets steer the family F from the beginning b on, whose last atom is x: at every open beginning b ++ r
-- they tell which atoms make a member and which make an open beginning. Members have at most k atoms: past v, the atom
-- added, b ++ r has k less its own atoms and v left
pub record Steers (F : Family) (adj : Adjacency) (k : ℕ) (b : List ℕ) (x : ℕ) (goal free : ℕ → Bool) : Type 0 where
  pub members :
      (r : List ℕ) → is_open F (b ++ r) ≡ true → (v : ℕ) →
      F.member ((b ++ r) ++ v ∷ []) ≡ (along adj x goal r v && adj (last_after x r) v)
  pub opens :
      (r : List ℕ) → is_open F (b ++ r) ≡ true → (v : ℕ) →
      (is_open F ((b ++ r) ++ v ∷ []) ≡ true) ↔
      Onward adj (last_after x r) (along adj x goal r) (along adj x free r) (k - suc (length (b ++ r))) v
