-- The lines of a file (document 02, F-1): each ends with a line feed, with or without a carriage return before it.
use Rattle.std.specs.Prelude.{ℕ, ◌+◌, ◌-◌, Bool, cond, List, [], ◌∷◌, map, length, get_or, take, leb, eqb}
use Rattle.graph.specs.Every.{all_below}

-- a byte put in front of the first line; where no line feed follows there is no line
unfoldable pub in_front : ℕ → List (List ℕ) → List (List ℕ)
in_front b [] = []
in_front b (line ∷ lines) = (b ∷ line) ∷ lines

-- the bytes before each line feed; what follows the last line feed is no line
unfoldable pub before_feeds : List ℕ → List (List ℕ)
before_feeds [] = []
before_feeds (b ∷ bytes) = cond (eqb b 10) ([] ∷ before_feeds bytes) (in_front b (before_feeds bytes))

-- the text of a line: without the carriage return that may stand before its line feed
unfoldable pub without_return : List ℕ → List ℕ
without_return line = cond (eqb (get_or line (length line - 1) 0) 13) (take (length line - 1) line) line

-- The lines of some bytes
unfoldable pub lines_in : List ℕ → List (List ℕ)
lines_in bytes = map without_return (before_feeds bytes)

-- line i, counted from 0; a line that is missing has no bytes
abbrev pub file_line : List (List ℕ) → ℕ → List ℕ
file_line lines i = get_or lines i []

-- a line reaches a column, counted from 1
abbrev pub reaches : ℕ → List ℕ → Bool
reaches column line = leb column (length line)

-- a word stands in a line from a column on, counted from 0
unfoldable pub stands : List ℕ → ℕ → List ℕ → Bool
stands word at line = all_below (length word) (λ k. eqb (get_or line (at + k) 0) (get_or word k 0))
