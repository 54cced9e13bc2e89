-- Many trials of a search, what they list, and the searches that they start from.
use Rattle.std.specs.Prelude.{ℕ, zero, suc, ◌+◌, ◌≤◌, ◌≡◌, true, false, cond, List, [], ◌∷◌, ◌++◌, reverse}
use Rattle.enumeration.specs.Words.{Family, keep, members, is_open}
use Rattle.enumeration.specs.Machine.{State, tried, is_done, trial}
use Rattle.enumeration.specs.Run.{record_of}
use Rattle.enumeration.specs.Listing.{follows}

-- One trial, or nothing where the search is done
unfoldable pub moved : Family → State → State
moved F st = cond (is_done F.atoms st) st (trial F st)

-- The word that it tries
unfoldable pub attempt : Family → State → List (List ℕ)
attempt F st = cond (is_done F.atoms st) [] (tried st ∷ [])

-- What it lists
unfoldable pub newly : Family → State → List (List ℕ)
newly F st = cond (is_done F.atoms st) [] (cond (F.member (tried st)) (tried st ∷ []) [])

-- The search after k trials; one that is done stays as it is
unfoldable pub steps : Family → ℕ → State → State
steps F zero st = st
steps F (suc k) st = steps F k (moved F st)

-- The words that k trials try, in order: as many as are made before the search is done
unfoldable pub attempts : Family → ℕ → State → List (List ℕ)
attempts F zero st = []
attempts F (suc k) st = attempt F st ++ attempts F k (moved F st)

-- The words that k trials list, in order
unfoldable pub emitted : Family → ℕ → State → List (List ℕ)
emitted F zero st = []
emitted F (suc k) st = newly F st ++ emitted F k (moved F st)

-- The sum of a beginning's atoms
abbrev pub sum : List ℕ → ℕ
sum [] = 0
sum (a ∷ p) = a + sum p

-- The records of words, joined
unfoldable pub records : List (List ℕ) → List ℕ
records [] = []
records (w ∷ ws) = record_of w ++ records ws

-- The members that follow the place of a search
abbrev pub following : Family → State → List (List ℕ)
following F st = keep (follows (reverse st.stack) st.next) (members F)

-- A search as a mark may hold it: its beginning is open, the next atom is from 1 to n, or the search is done
pub record Valid (F : Family) (st : State) : Type 0 where
  pub open_stack : is_open F (reverse st.stack) ≡ true
  pub low : 1 ≤ st.next
  pub within : is_done F.atoms st ≡ false → st.next ≤ F.atoms
