-- What is said of lists of words: their order, the members that follow a place (document 01, "Marks"),
-- the beginnings of members.
use Rattle.std.specs.Prelude.{ℕ, ◌≡◌, Bool, true, false, ◌||◌, ◌&&◌, not, ltb, leb, eqb}
use mathlib.Core.List.{List, [], ◌∷◌, Memᴰ}
use Rattle.enumeration.specs.Words.{Family, earlier, begins, words, keep, any, members}
use Rattle.enumeration.specs.Machine.{is_empty}

-- each word of the list is earlier than every one after it
abbrev pub Ascending : List (List ℕ) → Type 0
Ascending [] = Unit {0}
Ascending (w ∷ ws) = ((v : List ℕ) → Memᴰ v ws → earlier w v ≡ true) × Ascending ws

-- no word of the list stands there again
abbrev pub NoRepeats : List (List ℕ) → Type 0
NoRepeats [] = Unit {0}
NoRepeats (w ∷ ws) = (Memᴰ w ws → ⊥) × NoRepeats ws

-- w begins with p and its next atom is at least c
unfoldable pub goes_from : List ℕ → ℕ → List ℕ → Bool
goes_from [] c [] = false
goes_from [] c (b ∷ w) = leb c b
goes_from (a ∷ p) c [] = false
goes_from (a ∷ p) c (b ∷ w) = eqb a b && goes_from p c w

-- w comes later in dictionary order than every list that begins with p:
-- at their first difference, within p, w has the higher atom
unfoldable pub past : List ℕ → List ℕ → Bool
past [] w = false
past (a ∷ p) [] = false
past (a ∷ p) (b ∷ w) = ltb a b || eqb a b && past p w

-- w follows the place of the beginning p and the next atom c
unfoldable pub follows : List ℕ → ℕ → List ℕ → Bool
follows p c w = goes_from p c w || past p w

-- w is not empty and is a proper beginning of a member
unfoldable pub opens : Family → List ℕ → Bool
opens F w = not (is_empty w) && any (begins w) (members F)

-- The different non-empty proper beginnings of members
unfoldable pub open_words : Family → List (List ℕ)
open_words F = keep (opens F) (words F.atoms F.atoms)
