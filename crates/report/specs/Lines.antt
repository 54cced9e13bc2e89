-- What `ringlist` prints (document 01, "Judge, host entry and `ringlist`"): lines of number fields.
use Rattle.std.specs.Prelude.{ℕ, zero, suc, ◌≡◌, cond, List, [], ◌∷◌, ◌++◌, length, take, drop, leb}
use Rattle.fields.specs.Field.{field_text}
use Rattle.search.specs.Mark.{fields_text, line_feed}

-- A ring: its atoms in 4 columns each
unfoldable pub ring_line : List ℕ → List ℕ
ring_line atoms = fields_text 4 atoms ++ line_feed

-- The counts of a search: listed, extensions and trials in 20 columns each
unfoldable pub count_line : ℕ → ℕ → ℕ → List ℕ
count_line listed extensions trials = fields_text 20 (listed ∷ extensions ∷ trials ∷ []) ++ line_feed

-- "refused" in ASCII
abbrev pub refused_word : List ℕ
refused_word = 114 ∷ 101 ∷ 102 ∷ 117 ∷ 115 ∷ 101 ∷ 100 ∷ []

-- A refusal: the word and its number in 4 columns
unfoldable pub refusal_line : ℕ → List ℕ
refusal_line number = refused_word ++ field_text 4 number ++ line_feed

-- The lines of the first records of some bytes, at most so many. A record is
-- its length in one byte and then its atoms; one that is cut off has no line
unfoldable pub lines_of_first : ℕ → List ℕ → List ℕ
lines_of_first zero bytes = []
lines_of_first (suc most) [] = []
lines_of_first (suc most) (k ∷ rest) =
    cond (leb k (length rest)) (ring_line (take k rest) ++ lines_of_first most (drop k rest)) []

-- The lines of all records: they are no more than the bytes
unfoldable pub ring_lines : List ℕ → List ℕ
ring_lines bytes = lines_of_first (length bytes) bytes

-- The lines of rings, in order
unfoldable pub lines_of : List (List ℕ) → List ℕ
lines_of [] = []
lines_of (w ∷ ws) = ring_line w ++ lines_of ws

-- Lines printed into a buffer that must have so many bytes: the number of bytes written, 0 where it has fewer
unfoldable pub printed : ℕ → List ℕ → List ℕ → ℕ
printed room line buffer = cond (leb room (length buffer)) (length line) 0

-- and the buffer then: the lines, and past them the bytes that were there
unfoldable pub printed_on : ℕ → List ℕ → List ℕ → List ℕ
printed_on room line buffer = cond (leb room (length buffer)) (line ++ drop (length line) buffer) buffer

-- Both: so many bytes are returned, and the buffer is left so
abbrev pub PrintedInto : ℕ → List ℕ → List ℕ → ℕ → List ℕ → Type 0
PrintedInto room line buffer returned left =
    (returned ≡ printed room line buffer) × (left ≡ printed_on room line buffer)
