-- Tables of elements (document 02, F-1): symbols, left-justified in three columns, and the most neighbours of each.
use Rattle.std.specs.Prelude.{ℕ, cond, List, [], ◌∷◌}
use Rattle.molfile.specs.Lines.{stands}

-- a symbol of one letter
abbrev pub one_letter : ℕ → List ℕ
one_letter letter = letter ∷ 32 ∷ 32 ∷ []

-- A table: a symbol, three bytes, and its most neighbours, 1 or more, for each element
abbrev pub Table : Type 0
Table = List (List ℕ × ℕ)

-- The built-in table: H 1, C 4, N 4, O 3, F 1, P 6, S 6
abbrev pub built_in : Table
built_in =
    (one_letter 72, 1) ∷ (one_letter 67, 4) ∷ (one_letter 78, 4) ∷ (one_letter 79, 3) ∷ (one_letter 70, 1)
    ∷ (one_letter 80, 6) ∷ (one_letter 83, 6) ∷ []

-- The most neighbours that a table allows a symbol; 0 where the table does not have it
unfoldable pub limit_of : Table → List ℕ → ℕ
limit_of [] symbol = 0
limit_of (element ∷ table) symbol = cond (stands element.0 0 symbol) element.1 (limit_of table symbol)
