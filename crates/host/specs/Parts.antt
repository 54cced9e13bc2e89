-- What the parts of the entries say. Nothing to believe: the contract of an entry is its own definition.
use Rattle.std.specs.Prelude.{ℕ, cond, List, Err, Ok, Result, Some, None, Option}
use Rattle.refusal.specs.declared.Refusal.{Refusal}
use Rattle.refusal.specs.Number.{number_of}
use Rattle.search.specs.Mark.{field_kept, value_at}

-- The number that an entry returns of an answer: that of the rule where it is a refusal
abbrev pub code : Result ℕ Refusal → ℕ
code (Ok k) = k
code (Err r) = number_of r

-- The value of a field of a mark, where it is one
abbrev pub filled_value : ℕ → List ℕ → ℕ → Option ℕ
filled_value columns bytes at = cond (field_kept columns bytes at) (Some (value_at columns bytes at)) None
