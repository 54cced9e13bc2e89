-- Distances, behind the shortest paths (document 02, F-14): the lists of so many bonds that join an atom to t, their
-- number, and the bonds that lead one nearer to t. Nothing to believe: the laws of proofs/ relate them to the shortest
-- paths as they are defined.
use Rattle.std.specs.Prelude.{ℕ, zero, suc, ◌+◌, ◌≤◌, ◌<◌, ◌≡◌, Bool, true, false, ◌&&◌, cond, List, [], ◌∷◌, leb, eqb}
use Rattle.graph.specs.Chordless.{Adjacency}

-- an atom from 1 to n
pub record Atom (n a : ℕ) : Type 0 where
  pub low : 1 ≤ a
  pub high : a ≤ n

-- w leads from v to t by d bonds: d atoms from 1 to n, the first bonded to v, each other to the one before it, the last
-- one t; by no bond v is t itself
unfoldable pub leads_to : ℕ → Adjacency → ℕ → ℕ → ℕ → List ℕ → Bool
leads_to n adj t zero v [] = eqb v t
leads_to n adj t zero v (a ∷ w) = false
leads_to n adj t (suc d) v [] = false
leads_to n adj t (suc d) v (a ∷ w) = leb 1 a && leb a n && adj v a && leads_to n adj t d a w

-- the sum over the atoms from 1 to n
unfoldable pub total : ℕ → (ℕ → ℕ) → ℕ
total zero f = 0
total (suc n) f = total n f + f (suc n)

-- how many lists lead from v to t by d bonds
unfoldable pub ways : ℕ → Adjacency → ℕ → ℕ → ℕ → ℕ
ways n adj t zero v = cond (eqb v t) 1 0
ways n adj t (suc d) v = total n (λ a. cond (adj v a) (ways n adj t d a) 0)

-- v is d bonds from t: some list of d bonds leads there, and none of fewer
pub record Far (n : ℕ) (adj : Adjacency) (t d v : ℕ) : Type 0 where
  pub joined : 1 ≤ ways n adj t d v
  pub no_nearer : (e : ℕ) → e < d → ways n adj t e v ≡ 0

-- the bonds of `near` are those of adj between atoms from 1 to n that lead one nearer to t
pub record Nearing (n : ℕ) (adj : Adjacency) (t : ℕ) (near : Adjacency) : Type 0 where
  pub bond : (a b : ℕ) → near a b ≡ true → adj a b ≡ true
  pub from : (a b : ℕ) → near a b ≡ true → Atom n a
  pub to : (a b : ℕ) → near a b ≡ true → Atom n b
  pub nearer : (a b : ℕ) → near a b ≡ true → (d : ℕ) × Far n adj t (suc d) a × Far n adj t d b
  pub every :
      (a b d : ℕ) → Atom n a → Atom n b → adj a b ≡ true → Far n adj t (suc d) a → Far n adj t d b → near a b ≡ true

-- every bond leads one nearer to t, by its own distances
pub record Leading (n t : ℕ) (near : Adjacency) : Type 0 where
  pub from : (a b : ℕ) → near a b ≡ true → Atom n a
  pub to : (a b : ℕ) → near a b ≡ true → Atom n b
  pub nearer : (a b : ℕ) → near a b ≡ true → (d : ℕ) × Far n near t (suc d) a × Far n near t d b
