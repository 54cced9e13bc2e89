-- The list of a search (document 01, "Rings, paths and the list"), for any family of words over the atoms 1 to n.
-- A word is a list of atom numbers.
use Rattle.std.specs.Prelude.{ℕ, zero, suc, Bool, true, false, ◌||◌, ◌&&◌, cond, List, [], ◌∷◌, ◌++◌, map, ltb, eqb}

-- Dictionary order of atom numbers: at the first difference the lower atom comes first,
-- and a beginning comes before what goes on
unfoldable pub earlier : List ℕ → List ℕ → Bool
earlier [] [] = false
earlier [] (b ∷ w) = true
earlier (a ∷ v) [] = false
earlier (a ∷ v) (b ∷ w) = ltb a b || eqb a b && earlier v w

-- v is a proper beginning of w
unfoldable pub begins : List ℕ → List ℕ → Bool
begins [] [] = false
begins [] (b ∷ w) = true
begins (a ∷ v) [] = false
begins (a ∷ v) (b ∷ w) = eqb a b && begins v w

-- the numbers from c on, k of them
unfoldable pub numbers_from : ℕ → ℕ → List ℕ
numbers_from c zero = []
numbers_from c (suc k) = c ∷ numbers_from (suc c) k

-- the lists that f gives, joined
unfoldable pub joined : (ℕ → List (List ℕ)) → List ℕ → List (List ℕ)
joined f [] = []
joined f (a ∷ rest) = f a ++ joined f rest

-- every word of at most k atoms from 1 to n: the empty one, then those that start with 1, with 2, ..
unfoldable pub words : ℕ → ℕ → List (List ℕ)
words n zero = [] ∷ []
words n (suc k) = [] ∷ joined (λ a. map (λ w. a ∷ w) (words n k)) (numbers_from 1 n)

-- those that pass a test, in their order
unfoldable pub keep : (List ℕ → Bool) → List (List ℕ) → List (List ℕ)
keep test [] = []
keep test (w ∷ ws) = cond (test w) (w ∷ keep test ws) (keep test ws)

-- some word passes
unfoldable pub any : (List ℕ → Bool) → List (List ℕ) → Bool
any test [] = false
any test (w ∷ ws) = test w || any test ws

-- What a search lists: its number of atoms, and which words are members
pub record Family : Type 0 where
  pub atoms : ℕ
  pub member : List ℕ → Bool

-- The list of a search: all its members, in dictionary order
unfoldable pub members : Family → List (List ℕ)
members F = keep F.member (words F.atoms F.atoms)

-- Open: a proper beginning of a member; the empty one always counts as open
unfoldable pub is_open : Family → List ℕ → Bool
is_open F [] = true
is_open F (a ∷ v) = any (begins (a ∷ v)) (members F)
