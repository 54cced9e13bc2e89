-- Demand 3 of document 01: what holds of the search, the ring sheet and the trials after any list of calls.
use Rattle.std.specs.Prelude.{ℕ, suc, ◌+◌, ◌-◌, ◌*◌, ◌≤◌, ◌<◌, ◌≡◌, ◌↔◌, ◌⊎◌, true, false, cond, length, take, drop, leb, Err, Ok}
use mathlib.Core.List.{List, ◌++◌, Memᴰ}
use Rattle.enumeration.specs.declared.Stop.TheVariants.{Done, Limit}
use Rattle.enumeration.specs.Words.{Family, begins, members}
use Rattle.enumeration.specs.Machine.{fresh, is_empty, is_done}
use Rattle.enumeration.specs.Run.{at_limit}
use Rattle.enumeration.specs.Listing.{Ascending, NoRepeats, open_words}
use Rattle.enumeration.specs.Trials.{steps, records}
use Rattle.refusal.specs.declared.Refusal.TheVariants as refusal
use Rattle.molecule.specs.declared.Molecule.{Molecule}
use Rattle.search.specs.declared.Search.{Search}
use Rattle.search.specs.declared.Ran.{Ran}
use Rattle.search.specs.Place.{family_of, state_of, search_at}
use Rattle.search.specs.Entries.{run_search}
use Rattle.search.specs.Mark.{mark_text, save_answer, save_output, restore_mark}
use Rattle.history.specs.Calls.{Call, Standing, said_done}

-- The one list of a family: each member once, in dictionary order, and nothing else;
-- and the list of the different non-empty proper beginnings of members
pub record OneList (F : Family) : Type 0 where
  pub ascending : Ascending (members F)
  pub once : NoRepeats (members F)
  pub exactly : (w : List ℕ) → Memᴰ w (members F) ↔ (F.member w ≡ true)
  pub beginnings_once : NoRepeats (open_words F)
  pub beginnings_exactly :
      (p : List ℕ) →
      Memᴰ p (open_words F) ↔
      ((is_empty p ≡ false) × (w : List ℕ) × (F.member w ≡ true) × (begins p w ≡ true))

-- Once the search is done, on n atoms
pub record Whole (n : ℕ) (F : Family) (x : Standing) : Type 0 where
  -- the sheet is the whole list
  pub whole_sheet : x.sheet ≡ records (members F)
  pub whole_listed : x.search.listed ≡ length (members F)
  -- trials = n × (extensions + 1)
  pub trials_equation : x.search.trials ≡ n * suc x.search.extensions
  -- extensions is the number of different non-empty proper beginnings of members, at most (n − 1) × members
  pub extensions_counted : x.search.extensions ≡ length (open_words F)
  pub extensions_bound : x.search.extensions ≤ (n - 1) * length (members F)

-- A run of the search q lists a member, or says done, or a count stands at its limit
abbrev pub Progress : Search → Ran → Type 0
Progress q r =
    (q.listed < r.search.listed) ⊎
    (r.stop ≡ Done) ⊎
    ((r.stop ≡ Limit) × (at_limit (state_of r.search) ≡ true))

-- Calls handed the record and the search as it stands
pub record GoesOn (R : Molecule) (x : Standing) : Type 0 where
  -- no run is refused, nor is a restore of the mark of that search: it returns that search;
  -- a save of it is refused only where the buffer is shorter than the mark, and otherwise writes the mark
  pub run_accepted :
      (budget : ℕ) (out : List ℕ) →
      (ran : Ran) × (run_search R x.search budget out ≡ Ok ran)
  pub restore_accepted : restore_mark R (mark_text R x.search) ≡ Ok x.search
  pub save_answers :
      (buffer : List ℕ) →
      save_answer R x.search buffer ≡
      cond (leb (length (mark_text R x.search)) (length buffer))
      (Ok (length (mark_text R x.search)))
      (Err refusal.MarkRoom)
  pub save_writes :
      (buffer : List ℕ) → length (mark_text R x.search) ≤ length buffer →
      save_output R x.search buffer ≡
      mark_text R x.search ++ drop (length (mark_text R x.search)) buffer
  -- within 2 × n × n trials and n + 1 bytes a run lists a member or says done, unless a count stands at its limit
  pub progress :
      (budget : ℕ) (out : List ℕ) (ran : Ran) →
      2 * R.atoms * R.atoms ≤ budget → R.atoms + 1 ≤ length out →
      run_search R x.search budget out ≡ Ok ran → Progress x.search ran

-- What demand 3 says of what stands, x, after the calls on the record R
-- that began with the fresh search of a kind, s and t
pub record Demand (R : Molecule) (kind s t : ℕ) (calls : List Call) (x : Standing) : Type 0 where
  -- the search is the fresh one after as many trials as were made, still of that kind, s and t
  pub search_is : x.search ≡ search_at kind s t (steps (family_of R kind s t) x.made fresh)
  pub same_kind : x.search.kind ≡ kind
  pub same_s : x.search.s ≡ s
  pub same_t : x.search.t ≡ t
  -- the sheet is the first `listed` members of the one list
  pub one_list : OneList (family_of R kind s t)
  pub sheet_first : x.sheet ≡ records (take x.search.listed (members (family_of R kind s t)))
  pub listed_most : x.search.listed ≤ length (members (family_of R kind s t))
  -- trials is the sum of the trials made
  pub trials_sum : x.search.trials ≡ x.made
  -- a search that is done, and so one after a run that said done, has listed the whole list
  pub done_whole : is_done R.atoms (state_of x.search) ≡ true → Whole R.atoms (family_of R kind s t) x
  -- of kind 2, whose largest size is s, extensions is then also at most (s − 1) × rings
  pub done_bounded :
      kind ≡ 2 → is_done R.atoms (state_of x.search) ≡ true →
      x.search.extensions ≤ (s - 1) * length (members (family_of R kind s t))
  pub said-done : said_done calls ≡ true → is_done R.atoms (state_of x.search) ≡ true
  pub goes_on : GoesOn R x
