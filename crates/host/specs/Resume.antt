-- `ringlist_resume`, the entry by which the C host lists (document 01, "Judge, host entry
-- and `ringlist`"): what it returns and leaves in its outputs.
use Rattle.std.specs.Prelude.{ℕ, ◌+◌, ◌*◌, ◌&&◌, cond, List, length, leb, eqb, Result}
use Rattle.refusal.specs.declared.Refusal.{Refusal}
use Rattle.refusal.specs.Number.{number_of}
use Rattle.molecule.specs.declared.Molecule.{Molecule}
use Rattle.search.specs.declared.Search.{Search}
use Rattle.search.specs.Entries.{start_rings, run_search, run_output, search_after, ended, ended_number}
use Rattle.search.specs.Mark.{field_kept, value_at, mark_bonds, mark_length, save_output, restore_mark}
use Rattle.host.specs.Gate.{gated}

-- What the entry returns, and its two outputs after it
pub record Resumed : Type 0 where
  pub number : ℕ
  pub rings : List ℕ
  pub next_mark : List ℕ

-- A refusal returns its number and changes neither output
abbrev pub refused_call : Refusal → List ℕ → List ℕ → Resumed
refused_call r rings next = record { number = number_of r; rings = rings; next_mark = next }

-- The search to run: no mark bytes mean a fresh ring search
unfoldable pub search_for : Molecule → List ℕ → Result Search Refusal
search_for mol mark = cond (eqb (length mark) 0) (start_rings mol) (restore_mark mol mark)

-- Runs the search and saves what it returns
unfoldable pub run_and_save : Molecule → Search → ℕ → List ℕ → List ℕ → Resumed
run_and_save mol q budget rings next =
    let ran = run_search mol q budget rings in
    record {
      number = ended_number (ended ran);
      rings = run_output mol q budget rings;
      next_mark = save_output mol (search_after q ran) next;
    }

-- The entry: it reads the sheet (rules 1 to 8), restores the mark
-- (14 to 17), asks 9,815 bytes for the next mark (13), runs and saves
abbrev pub resume : List ℕ → List ℕ → ℕ → List ℕ → List ℕ → Resumed
resume sheet mark budget rings next =
    gated (λ r. refused_call r rings next) sheet (λ mol. search_for mol mark) next
    (λ mol q. run_and_save mol q budget rings next)

-- the bytes of a mark, by the bonds in its fifth field and the length of p in its sixth
abbrev pub named_size : List ℕ → ℕ
named_size bytes = 91 + 4 * mark_length bytes + 9 * mark_bonds bytes

-- The bytes of the mark at the start of a buffer; 0 where one of the two
-- is no field of a mark (one that zeros fill is none), or the buffer has fewer bytes
unfoldable pub mark_size : List ℕ → ℕ
mark_size bytes =
    cond
    (leb 91 (length bytes)
    && field_kept 4 bytes 16
    && field_kept 4 bytes 20
    && leb (named_size bytes) (length bytes))
    (named_size bytes) 0

-- The listed count of a mark; 0 where there is none, as in no bytes or in a field that zeros fill
unfoldable pub listed_in : List ℕ → ℕ
listed_in bytes = cond (leb 91 (length bytes) && field_kept 20 bytes 69) (value_at 20 bytes 69) 0
