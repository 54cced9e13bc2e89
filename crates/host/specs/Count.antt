-- The number of shortest paths from C (include/ringlist.h; document 02, F-14): what the entry returns and leaves in its
-- output.
use Rattle.std.specs.Prelude.{ℕ, List, Err, Ok, Result}
use Rattle.refusal.specs.declared.Refusal.{Refusal}
use Rattle.refusal.specs.Number.{number_of}
use Rattle.refusal.specs.Answers.{unless_refused}
use Rattle.sheet.specs.Read.{read_sheet}
use Rattle.counter.specs.Count.{count_shortest}

-- What the entry returns, and the number in its output after it
pub record CountedSheet : Type 0 where
  pub number : ℕ
  pub count : ℕ

-- A refusal returns its number and does not change the output
abbrev pub refused_count : Refusal → ℕ → CountedSheet
refused_count r count = record { number = number_of r; count = count }

-- What the count answered: its number is written, or it was refused
abbrev pub wrote_count : Result ℕ Refusal → ℕ → CountedSheet
wrote_count (Ok k) count = record { number = 0; count = k }
wrote_count (Err r) count = refused_count r count

-- The entry: it reads the sheet (rules 1 to 8), and counts the shortest paths from s to t on its record (10, 11, 26; an
-- accepted sheet keeps rule 9)
unfoldable pub count_sheet : List ℕ → ℕ → ℕ → ℕ → CountedSheet
count_sheet sheet s t count =
    unless_refused (read_sheet sheet) (λ r. refused_count r count)
    (λ mol. wrote_count (count_shortest mol s t) count)
