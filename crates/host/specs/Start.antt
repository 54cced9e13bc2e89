-- The start of a search from C (include/ringlist.h; document 02, F-4; kind 3: F-14): what the entry returns and leaves
-- in its output.
use Rattle.std.specs.Prelude.{ℕ, List, ◌++◌, length, drop}
use Rattle.refusal.specs.declared.Refusal.{Refusal}
use Rattle.refusal.specs.Number.{number_of}
use Rattle.molecule.specs.declared.Molecule.{Molecule}
use Rattle.search.specs.declared.Search.{Search}
use Rattle.search.specs.Entries.{start_search}
use Rattle.search.specs.Mark.{mark_text}
use Rattle.host.specs.Gate.{gated}

-- What the entry returns, and its mark output after it
pub record Started : Type 0 where
  pub number : ℕ
  pub next_mark : List ℕ

-- A refusal returns its number and does not change the output
abbrev pub refused_start : Refusal → List ℕ → Started
refused_start r next = record { number = number_of r; next_mark = next }

-- The mark of the search is written; the bytes past it keep their values
abbrev pub wrote_mark : Molecule → Search → List ℕ → Started
wrote_mark mol q next = record { number = 0; next_mark = mark_text mol q ++ drop (length (mark_text mol q)) next }

-- The entry: it reads the sheet (rules 1 to 8), starts a search of the kind, s and t on it (16, then 10 and 11 of paths
-- and shortest paths, kinds 1 and 3, or 21 of rings up to a size), asks 9,815 bytes for the mark (13), and writes it
abbrev pub start_mark : List ℕ → ℕ → ℕ → ℕ → List ℕ → Started
start_mark sheet kind s t next =
    gated (λ r. refused_start r next) sheet (λ mol. start_search mol kind s t) next (λ mol q. wrote_mark mol q next)
