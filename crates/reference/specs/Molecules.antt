-- The reference molecules of document 01 that are starred there, each as the bytes of its bond sheet.
use Rattle.std.specs.Prelude.{ℕ, List, [], ◌∷◌}
use Rattle.reference.specs.Text.{text}

unfoldable pub no_atoms : List ℕ
no_atoms = text ("   0   0" ∷ [])

-- chain of 3
unfoldable pub chain : List ℕ
chain = text ("   3   2" ∷ "   1   2" ∷ "   2   3" ∷ [])

unfoldable pub five_ring : List ℕ
five_ring = text ("   5   5" ∷ "   1   2" ∷ "   2   3" ∷ "   3   4" ∷ "   4   5" ∷ "   1   5" ∷ [])

-- four atoms all bonded
unfoldable pub all_bonded : List ℕ
all_bonded =
    text ("   4   6" ∷ "   1   2" ∷ "   1   3" ∷ "   1   4" ∷ "   2   3" ∷ "   2   4" ∷ "   3   4" ∷ [])

-- the six lines of document 01
unfoldable pub paper_sheet : List ℕ
paper_sheet =
    text
    ("   4   5"
    ∷ "   1   2"
    ∷ "   2   3"
    ∷ "   3   4"
    ∷ "   1   4"
    ∷ "   1   3"
    ∷ [])

-- bonds from 1 and 2 to each of 3, 4, 5
unfoldable pub two_to_three : List ℕ
two_to_three =
    text ("   5   6" ∷ "   1   3" ∷ "   1   4" ∷ "   1   5" ∷ "   2   3" ∷ "   2   4" ∷ "   2   5" ∷ [])
