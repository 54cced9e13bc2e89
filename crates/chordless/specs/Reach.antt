-- Openness as reachability (document 01, after lemma 2 of document 003): what an atom must be to go on a beginning p
-- of a ring or of a path. Any adjacency: a bond is asked from the earlier atom of a list to the later one, as in
-- `induces`. The laws ask that it is `Irreflexive`.
use Rattle.std.specs.Prelude.{ℕ, suc, ◌≤◌, ◌<◌, ◌≡◌, Bool, true, false, ◌&&◌, ◌||◌, not, List, ◌≢◌, ◌↔◌, length, leb, ltb, eqb}
use Rattle.std.specs.Bool.{beq}
use Rattle.graph.specs.Every.{all_below}
use Rattle.graph.specs.Chordless.{Adjacency, atom_at}

-- no atom from 1 to n is bonded to itself
abbrev pub Irreflexive : ℕ → Adjacency → Type 0
Irreflexive n adj = (u : ℕ) → 1 ≤ u → u ≤ n → adj u u ≡ false

-- every bond goes both ways
abbrev pub Symmetric : Adjacency → Type 0
Symmetric adj = (a b : ℕ) → adj a b ≡ adj b a

-- From v, b is reached in at most d steps through atoms that `allowed` admits:
-- every atom strictly between v and b is allowed, v and b need not be
pub data Walk (adj : Adjacency) (allowed : ℕ → Bool) (b : ℕ) : ℕ → ℕ → Type 0 where
  there : {d v : ℕ} → adj v b ≡ true → Walk adj allowed b (suc d) v
  through : {d v w : ℕ} → adj v w ≡ true → allowed w ≡ true → Walk adj allowed b d w → Walk adj allowed b (suc d) v

-- from v a target is reached in at most d steps through allowed atoms
abbrev pub Reaches : Adjacency → (ℕ → Bool) → (ℕ → Bool) → ℕ → ℕ → Type 0
Reaches adj allowed target d v = (b : ℕ) × (target b ≡ true) × Walk adj allowed b d v

-- Of the atoms above low, at most n, S holds exactly for those from which a target is reached in at most d steps:
-- one sweep finds S for every candidate
abbrev pub Sweeps : ℕ → ℕ → Adjacency → (ℕ → Bool) → (ℕ → Bool) → ℕ → (ℕ → Bool) → Type 0
Sweeps n low adj allowed target d S = (v : ℕ) → low < v → v ≤ n → (S v ≡ true) ↔ Reaches adj allowed target d v

-- u is bonded to no atom of p
unfoldable pub clear : Adjacency → List ℕ → ℕ → Bool
clear adj p u = all_below (length p) (λ i. not (adj (atom_at p i) u))

-- u is bonded to the last atom of p and to no other
unfoldable pub touches_only_last : Adjacency → List ℕ → ℕ → Bool
touches_only_last adj p u =
    all_below (length p) (λ i. beq (adj (atom_at p i) u) (eqb (suc i) (length p)))

-- u is bonded to the first atom of p and to no other
unfoldable pub touches_only_first : Adjacency → List ℕ → ℕ → Bool
touches_only_first adj p u =
    all_below (length p) (λ i. beq (adj (atom_at p i) u) (eqb i 0))

-- u is bonded to the first atom of p, to the last, and to no other
unfoldable pub touches_only_ends : Adjacency → List ℕ → ℕ → Bool
touches_only_ends adj p u =
    all_below (length p) (λ i. beq (adj (atom_at p i) u) (eqb i 0 || eqb (suc i) (length p)))

-- u may stand between: above low (a ring: its first atom; a path: 0), at most n,
-- bonded to no atom of p
unfoldable pub free : ℕ → Adjacency → ℕ → List ℕ → ℕ → Bool
free n adj low p u = ltb low u && leb u n && clear adj p u

-- b may close a ring that begins with p: above the second atom a, at most n,
-- bonded to the first atom of p and to no other
unfoldable pub closing : ℕ → Adjacency → List ℕ → ℕ → ℕ → Bool
closing n adj p a b = ltb a b && leb b n && touches_only_first adj p b

-- v opens the beginning p of a ring, whose second atom is a (for one atom alone, a is v): v is above the first atom,
-- is bonded to the last one and to no other, and some closing atom is reached from v in at most d steps through free
-- atoms, so that d more atoms suffice. Which atoms are free or closing does not depend on v when p has two atoms or
-- more.
pub record RingOpens (n : ℕ) (adj : Adjacency) (p : List ℕ) (a d v : ℕ) : Type 0 where
  pub above : atom_at p 0 < v
  pub range : v ≤ n
  pub touches : touches_only_last adj p v ≡ true
  pub last : ℕ
  pub closes : closing n adj p a last ≡ true
  pub reached : Walk adj (free n adj (atom_at p 0) p) last d v

-- v makes a ring of the beginning p, of two atoms or more
pub record RingCloses (n : ℕ) (adj : Adjacency) (p : List ℕ) (v : ℕ) : Type 0 where
  pub above : atom_at p 1 < v
  pub range : v ≤ n
  pub touches : touches_only_ends adj p v ≡ true

-- v opens the beginning p of a path to t: v is not the first atom, is bonded to the last one and to no other,
-- t is bonded to none, and t is reached from v in at most d steps through free atoms.
-- Neither the free atoms nor the test of t depend on v.
pub record PathOpens (n : ℕ) (adj : Adjacency) (t : ℕ) (p : List ℕ) (d v : ℕ) : Type 0 where
  pub least : 1 ≤ v
  pub range : v ≤ n
  pub other : atom_at p 0 ≢ v
  pub touches : touches_only_last adj p v ≡ true
  pub ahead : clear adj p t ≡ true
  pub reached : Walk adj (free n adj 0 p) t d v
