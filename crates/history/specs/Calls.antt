-- Lists of runs, saves and restores (document 01, "Marks"): which calls are refused, what stands after a list of them,
-- which lists demand 3 speaks of. What a call answers is `run_search`, `save_answer` or `restore_mark`, as the
-- contracts of the entries say.
use Rattle.std.specs.Prelude.{ℕ, ◌+◌, ◌≡◌, ◌⊎◌, Bool, true, false, ◌||◌, List, [], ◌∷◌, ◌++◌, take, Err, Ok, Result, is_err}
use Rattle.enumeration.specs.declared.Stop.{Stop}
use Rattle.enumeration.specs.declared.Stop.TheVariants.{Done, Limit, Spent, Full}
use Rattle.molecule.specs.declared.Molecule.{Molecule}
use Rattle.search.specs.declared.Search.{Search}
use Rattle.search.specs.declared.Ran.{Ran}
use Rattle.search.specs.Place.{fresh_search}
use Rattle.search.specs.Entries.{run_search, run_output}
use Rattle.search.specs.Mark.{mark_text, save_answer, restore_mark}
use Rattle.refusal.specs.declared.Refusal.{Refusal}

-- A call, handed anything at all: a run with its budget and output, a save with its buffer,
-- a restore with the bytes of a mark
pub data Call : Type 0 where
  runs : Molecule → Search → ℕ → List ℕ → Call
  saves : Molecule → Search → List ℕ → Call
  restores : Molecule → List ℕ → Call

-- What stands: the search, the ring sheet (the records of the runs so far, joined),
-- and the sum of the trials made
pub record Standing : Type 0 where
  pub search : Search
  pub sheet : List ℕ
  pub made : ℕ

-- At the start: the fresh search of a kind, s and t, an empty sheet, no trial made
unfoldable pub start : ℕ → ℕ → ℕ → Standing
start kind s t = record { search = fresh_search kind s t; sheet = []; made = 0 }

-- ---- refusals

-- The call is refused
unfoldable pub refused : Call → Bool
refused (runs mol q budget out) = is_err (run_search mol q budget out)
refused (saves mol q buffer) = is_err (save_answer mol q buffer)
refused (restores mol mark) = is_err (restore_mark mol mark)

-- ---- what stands after calls

-- A run moves the search, adds the bytes that it used of its output to the sheet and the trials that it made to the
-- sum; a refused one changes nothing
abbrev pub after_run : Standing → List ℕ → Result Ran Refusal → Standing
after_run x out (Ok r) =
    record { search = r.search; sheet = x.sheet ++ take r.used out; made = x.made + r.made }
after_run x out (Err r) = x

-- A restore puts the restored search in place; a refused one changes nothing
abbrev pub after_restore : Standing → Result Search Refusal → Standing
after_restore x (Ok q) = record { search = q; sheet = x.sheet; made = x.made }
after_restore x (Err r) = x

-- After any call; a save leaves all as it is
unfoldable pub after_call : Standing → Call → Standing
after_call x (runs mol q budget out) = after_run x (run_output mol q budget out) (run_search mol q budget out)
after_call x (saves mol q buffer) = x
after_call x (restores mol mark) = after_restore x (restore_mark mol mark)

-- After a list of calls, the first of the list made first
unfoldable pub standing : Standing → List Call → Standing
standing x [] = x
standing x (call ∷ calls) = standing (after_call x call) calls

-- ---- the lists that demand 3 speaks of

-- The call was handed the record R and the search q;
-- a restore: R and the very bytes that a save of q writes
abbrev pub Handed : Molecule → Search → Call → Type 0
Handed R q (runs mol p budget out) = (mol ≡ R) × (p ≡ q)
Handed R q (saves mol p buffer) = (mol ≡ R) × (p ≡ q)
Handed R q (restores mol mark) = (mol ≡ R) × (mark ≡ mark_text R q)

-- A call that is refused, whatever it was handed,
-- or that was handed the record and the search as it stands
abbrev pub Allowed : Molecule → Standing → Call → Type 0
Allowed R x call = (refused call ≡ true) ⊎ Handed R x.search call

-- Each call of the list is allowed where it is made
abbrev pub History : Molecule → Standing → List Call → Type 0
History R x [] = Unit {0}
History R x (call ∷ calls) = Allowed R x call × History R (after_call x call) calls

-- ---- what a call says

abbrev pub is_done_stop : Stop → Bool
is_done_stop Done = true
is_done_stop Limit = false
is_done_stop Spent = false
is_done_stop Full = false

abbrev pub ran_done : Result Ran Refusal → Bool
ran_done (Ok ran) = is_done_stop ran.stop
ran_done (Err r) = false

-- The call is a run that says done
unfoldable pub says_done : Call → Bool
says_done (runs mol q budget out) = ran_done (run_search mol q budget out)
says_done (saves mol q buffer) = false
says_done (restores mol mark) = false

-- Some call of the list says done
unfoldable pub said_done : List Call → Bool
said_done [] = false
said_done (call ∷ calls) = says_done call || said_done calls
