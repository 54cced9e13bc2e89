-- The table of the starred reference molecules (document 01), and what it says of each line: what the entries, by their
-- own definitions, answer on the record that is read from the sheet's bytes.
use Rattle.std.specs.Prelude.{ℕ, suc, ◌-◌, ◌≤◌, ◌≡◌, List, [], ◌∷◌, ◌++◌, reverse, length, drop, replicate, Ok, Result}
use Prim.Native.String.{String}
use Rattle.enumeration.specs.declared.Stop.{Stop}
use Rattle.enumeration.specs.declared.Stop.TheVariants.{Done, Spent, Full}
use Rattle.enumeration.specs.Words.{members}
use Rattle.enumeration.specs.Trials.{records}
use Rattle.refusal.specs.Answers.{unless_refused}
use Rattle.molecule.specs.declared.Molecule.{Molecule}
use Rattle.molecule.specs.Record.{fresh_molecule}
use Rattle.sheet.specs.Read.{atoms_of, read_sheet}
use Rattle.search.specs.declared.Search.{Search}
use Rattle.search.specs.declared.Ran.{Ran}
use Rattle.search.specs.Place.{family_of, search_at, fresh_search}
use Rattle.search.specs.Entries.{start_search, run_search, run_output}
use Rattle.search.specs.Mark.{mark_text, save_answer, save_output, restore_mark}
use Rattle.reference.specs.Text.{text}
use Rattle.reference.specs.Molecules.{no_atoms, chain, five_ring, all_bonded, paper_sheet, two_to_three}
use Rattle.refusal.specs.declared.Refusal.{Refusal}

-- A line: the bytes of a sheet and a search on it, the list written out, and one run of the fresh search: its budget,
-- the bytes of its output before it, what it returns, those
-- bytes after it, and the returned search's mark and its length
pub record Line : Type 0 where
  pub sheet : List ℕ
  pub kind : ℕ
  pub s : ℕ
  pub t : ℕ
  pub list : List (List ℕ)
  pub budget : ℕ
  pub output : List ℕ
  pub returned : Ran
  pub written : List ℕ
  pub mark : List ℕ
  pub size : ℕ

-- the record that is read from its sheet; the fresh one where that is refused, which no line is
abbrev pub molecule_of : Line → Molecule
molecule_of l = unless_refused (read_sheet l.sheet) (λ r. fresh_molecule) (λ mol. mol)

-- the fresh search, and what starting it answers
abbrev pub fresh_of : Line → Search
fresh_of l = fresh_search l.kind l.s l.t

abbrev pub started : Line → Result Search Refusal
started l = start_search (molecule_of l) l.kind l.s l.t

-- The save of the returned search into a buffer writes the mark and says its length; the bytes after it stay
pub record Saves (l : Line) (buffer : List ℕ) : Type 0 where
  pub answers : save_answer (molecule_of l) l.returned.search buffer ≡ Ok l.size
  pub leaves : save_output (molecule_of l) l.returned.search buffer ≡ l.mark ++ drop l.size buffer

-- A line holds: the sheet is accepted and the search starts; the list is all its members in dictionary order; the run
-- returns exactly this search, stop, bytes used and trials made, and leaves exactly these bytes; the mark of the search
-- is exactly these bytes, so many; saving writes just them into any buffer with room; and they restore the search
pub record Holds (l : Line) : Type 0 where
  pub reads : read_sheet l.sheet ≡ Ok (molecule_of l)
  pub starts : started l ≡ Ok (fresh_of l)
  pub lists : members (family_of (molecule_of l) l.kind l.s l.t) ≡ l.list
  pub returns : run_search (molecule_of l) (fresh_of l) l.budget l.output ≡ Ok l.returned
  pub writes : run_output (molecule_of l) (fresh_of l) l.budget l.output ≡ l.written
  pub marks : mark_text (molecule_of l) l.returned.search ≡ l.mark
  pub measures : length l.mark ≡ l.size
  pub saves : (buffer : List ℕ) → l.size ≤ length buffer → Saves l buffer
  pub restores : restore_mark (molecule_of l) l.mark ≡ Ok l.returned.search

-- Every line holds
abbrev pub AllHold : List Line → Type 0
AllHold [] = Unit
AllHold (l ∷ rest) = Holds l × AllHold rest

-- The search of a kind, s and t at a beginning p and a next atom c, with the counts listed, extensions, trials
abbrev pub search_with : ℕ → ℕ → ℕ → List ℕ → ℕ → ℕ → ℕ → ℕ → Search
search_with kind s t p c listed extensions trials =
    search_at kind s t
    (record { stack = reverse p; next = c; trials = trials; extensions = extensions; listed = listed })

-- What a run of the fresh search returns: as many trials made as the search counts
abbrev pub ends : Stop → Search → ℕ → Ran
ends stop q used = record { stop = stop; search = q; used = used; made = q.trials }

-- bytes that stood in an output before a run
abbrev pub old : ℕ → List ℕ
old k = replicate k 255

-- the three lines of a mark and its bond lines
abbrev pub mark_of : String → String → String → List String → List ℕ
mark_of place counts atoms bonds = text (place ∷ counts ∷ atoms ∷ bonds)

-- A run of the fresh search: sheet, kind, s, t, list; budget, output bytes; what it returns, output, mark and length
abbrev pub fresh_run : List ℕ → ℕ → ℕ → ℕ → List (List ℕ) → ℕ → ℕ → Ran → List ℕ → List ℕ → ℕ → Line
fresh_run sheet kind s t list budget room returned written mark size =
    record {
      sheet = sheet;
      kind = kind;
      s = s;
      t = t;
      list = list;
      budget = budget;
      output = old room;
      returned = returned;
      written = written;
      mark = mark;
      size = size;
    }

-- A search to its end, with a budget and an output to spare: list; listed, extensions, trials; two lines of its mark,
-- its bond lines, and its length
abbrev pub whole : List ℕ → ℕ → ℕ → ℕ → List (List ℕ) → ℕ → ℕ → ℕ → String → String → List String → ℕ → Line
whole sheet kind s t list listed extensions trials place counts bonds =
    let bytes = records list in
    let done = search_with kind s t [] (suc (atoms_of sheet)) listed extensions trials in
    fresh_run sheet kind s t list (suc trials) 20 (ends Done done (length bytes)) (bytes ++ old (20 - length bytes))
    (mark_of place counts "" bonds)

abbrev pub whole_rings : List ℕ → List (List ℕ) → ℕ → ℕ → ℕ → String → String → List String → ℕ → Line
whole_rings sheet = whole sheet 0 0 0

abbrev pub whole_paths : List ℕ → ℕ → ℕ → List (List ℕ) → ℕ → ℕ → ℕ → String → String → List String → ℕ → Line
whole_paths sheet s t = whole sheet 1 s t

-- the bond lines of a mark on the paper's sheet: lower atom first, in dictionary order
abbrev pub sheet_bonds : List String
sheet_bonds = "   1   2" ∷ "   1   3" ∷ "   1   4" ∷ "   2   3" ∷ "   3   4" ∷ []

-- the rings of the paper's sheet
abbrev pub sheet_rings : List (List ℕ)
sheet_rings = (1 ∷ 2 ∷ 3 ∷ []) ∷ (1 ∷ 3 ∷ 4 ∷ []) ∷ []

-- A fresh ring run on the paper's sheet: budget, output bytes; what it returns, the output, mark and length
abbrev pub sheet_run : ℕ → ℕ → Ran → List ℕ → List ℕ → ℕ → Line
sheet_run = fresh_run paper_sheet 0 0 0 sheet_rings

-- the mark of a ring search on the paper's sheet at p = 1 2, c = 3, after 5 trials with 2 extensions
abbrev pub sheet_mark : List ℕ
sheet_mark =
    mark_of
    "   0   0   0   4   5   2   3"
    "                   5                   2                   0"
    "   1   2"
    sheet_bonds

-- The starred lines of "Reference molecules", each to its end: the list; listed, extensions, trials; its mark.
-- Then the four fresh ring runs on the paper's sheet: budget, output bytes; stop, the search with kind, s, t, p, c,
-- listed, extensions, trials, and the bytes used; the output; the mark and its length
unfoldable pub table : List Line
table =
    -- no atoms
    whole_rings no_atoms [] 0 0 0
    "   0   0   0   0   0   0   1" "                   0                   0                   0"
    [] 91
    -- chain of 3
    ∷ whole_rings chain [] 0 0 3
    "   0   0   0   3   2   0   4" "                   3                   0                   0"
    ("   1   2" ∷ "   2   3" ∷ []) 109
    -- five-ring
    ∷ whole_rings five_ring ((1 ∷ 2 ∷ 3 ∷ 4 ∷ 5 ∷ []) ∷ []) 1 4 25
    "   0   0   0   5   5   0   6" "                  25                   4                   1"
    ("   1   2" ∷ "   1   5" ∷ "   2   3" ∷ "   3   4" ∷ "   4   5" ∷ []) 136
    -- four atoms all bonded
    ∷ whole_rings all_bonded ((1 ∷ 2 ∷ 3 ∷ []) ∷ (1 ∷ 2 ∷ 4 ∷ []) ∷ (1 ∷ 3 ∷ 4 ∷ []) ∷ (2 ∷ 3 ∷ 4 ∷ []) ∷ []) 4 5 24
    "   0   0   0   4   6   0   5" "                  24                   5                   4"
    ("   1   2" ∷ "   1   3" ∷ "   1   4" ∷ "   2   3" ∷ "   2   4" ∷ "   3   4" ∷ []) 145
    -- the sheet of document 01
    ∷ whole_rings paper_sheet sheet_rings 2 3 16
    "   0   0   0   4   5   0   5" "                  16                   3                   2"
    sheet_bonds 136
    -- bonds from 1 and 2 to each of 3, 4, 5
    ∷ whole_rings two_to_three ((1 ∷ 3 ∷ 2 ∷ 4 ∷ []) ∷ (1 ∷ 3 ∷ 2 ∷ 5 ∷ []) ∷ (1 ∷ 4 ∷ 2 ∷ 5 ∷ []) ∷ []) 3 5 30
    "   0   0   0   5   6   0   6" "                  30                   5                   3"
    ("   1   3" ∷ "   1   4" ∷ "   1   5" ∷ "   2   3" ∷ "   2   4" ∷ "   2   5" ∷ []) 145
    -- paths in the paper's sheet, 2 to 4 and 1 to 3
    ∷ whole_paths paper_sheet 2 4 ((2 ∷ 1 ∷ 4 ∷ []) ∷ (2 ∷ 3 ∷ 4 ∷ []) ∷ []) 2 3 16
    "   1   2   4   4   5   0   5" "                  16                   3                   2"
    sheet_bonds 136
    ∷ whole_paths paper_sheet 1 3 ((1 ∷ 3 ∷ []) ∷ []) 1 1 8
    "   1   1   3   4   5   0   5" "                   8                   1                   1"
    sheet_bonds 136
    -- budget 5 ends spent
    ∷ sheet_run 5 3 (ends Spent (search_with 0 0 0 (1 ∷ 2 ∷ []) 3 0 2 5) 0) (255 ∷ 255 ∷ 255 ∷ []) sheet_mark 144
    -- budget 6 ends full after 5 trials, p = 1 2, c = 3, mark 144 bytes (document 02, F-5)
    ∷ sheet_run 6 3 (ends Full (search_with 0 0 0 (1 ∷ 2 ∷ []) 3 0 2 5) 0) (255 ∷ 255 ∷ 255 ∷ []) sheet_mark 144
    -- budget 0 ends spent
    ∷ sheet_run 0 3 (ends Spent (search_with 0 0 0 [] 1 0 0 0) 0) (255 ∷ 255 ∷ 255 ∷ [])
    (mark_of
    "   0   0   0   4   5   0   1" "                   0                   0                   0" "" sheet_bonds) 136
    -- budget 16 with 8 bytes ends done
    ∷ sheet_run 16 8 (ends Done (search_with 0 0 0 [] 5 2 3 16) 8) (3 ∷ 1 ∷ 2 ∷ 3 ∷ 3 ∷ 1 ∷ 3 ∷ 4 ∷ [])
    (mark_of
    "   0   0   0   4   5   0   5" "                  16                   3                   2" "" sheet_bonds) 136
    ∷ []
