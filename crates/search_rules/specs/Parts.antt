-- What the tests of rule 12 find. Nothing to believe: the contracts are the definitions of `search`.
use Rattle.std.specs.Prelude.{ℕ, suc, Bool, ◌&&◌, ◌||◌, List, get_or, leb, ltb, eqb}
use Rattle.graph.specs.Every.{all_below}
use Rattle.enumeration.specs.Run.{limit}
use Rattle.molecule.specs.Record.{is_atom}

-- the places past a length hold 0
unfoldable pub padded_at : List ℕ → ℕ → ℕ → Bool
padded_at prefix len i = ltb i len || eqb (get_or prefix i 0) 0

unfoldable pub padded : List ℕ → ℕ → Bool
padded prefix len = all_below 128 (padded_at prefix len)

-- the next atom is from 1 to n, or n + 1 after an empty beginning
unfoldable pub next_kept : ℕ → ℕ → ℕ → Bool
next_kept n len c = is_atom n c || eqb len 0 && eqb c (suc n)

-- no count is above the limit
abbrev pub counts_kept : ℕ → ℕ → ℕ → Bool
counts_kept trials extensions listed = leb trials limit && leb extensions limit && leb listed limit
