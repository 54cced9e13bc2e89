-- Repeated calls from C (document 01, "Judge, host entry and
-- `ringlist`"): what a host keeps, and what demand 3 says of it.
-- It keeps a mark and the records so far; it learns the number of new records from the listed counts of the two marks.
use Rattle.std.specs.Prelude.{ℕ, zero, suc, ◌+◌, ◌-◌, ◌*◌, ◌≤◌, ◌<◌, ◌≡◌, ◌⊎◌, Bool, true, false, ◌||◌, cond, List, [], ◌∷◌, ◌++◌, length, take, drop, ltb, eqb}
use Rattle.enumeration.specs.Words.{members}
use Rattle.enumeration.specs.Trials.{records}
use Rattle.refusal.specs.Answers.{unless_refused}
use Rattle.molecule.specs.declared.Molecule.{Molecule}
use Rattle.sheet.specs.Read.{read_sheet}
use Rattle.search.specs.declared.Search.{Search}
use Rattle.search.specs.Place.{family_of, fresh_search, kind_kept}
use Rattle.search.specs.Entries.{run_search, search_after}
use Rattle.search.specs.Mark.{mark_text}
use Rattle.history.specs.Calls.{Call, runs, saves, restores, Standing, start, History}
use Rattle.history.specs.Demand.{Demand}
use Rattle.history.specs.Resumed.{restored_start, followers, FromMark}
use Rattle.host.specs.Gate.{mark_room}
use Rattle.host.specs.Resume.{Resumed, search_for, resume, mark_size, listed_in}

-- A call from C, handed anything at all: a sheet, a mark, a budget, a ring output and a mark output
pub record HostCall : Type 0 where
  pub sheet : List ℕ
  pub mark : List ℕ
  pub budget : ℕ
  pub rings : List ℕ
  pub next : List ℕ

-- What it returns and leaves in the outputs
abbrev pub returned : HostCall → Resumed
returned c = resume c.sheet c.mark c.budget c.rings c.next

-- It is refused: it returns a rule's number and not a stop's, which start at 101
unfoldable pub is_refused : HostCall → Bool
is_refused c = ltb (returned c).number 101

-- ---- what the host keeps

-- The mark, no bytes where there is none yet, and the records so far, joined
pub record Kept : Type 0 where
  pub mark : List ℕ
  pub rings : List ℕ

-- At first: a mark, and no record yet
unfoldable pub keeping : List ℕ → Kept
keeping mark = record { mark = mark; rings = [] }

-- The first k records of some bytes, each as long as its first byte says
unfoldable pub first_records : ℕ → List ℕ → List ℕ
first_records zero bytes = []
first_records (suc k) [] = []
first_records (suc k) (size ∷ bytes) = size ∷ (take size bytes ++ first_records k (drop size bytes))

-- The mark that a call left at the start of its mark output
abbrev pub mark_left : HostCall → List ℕ
mark_left c = take (mark_size (returned c).next_mark) (returned c).next_mark

-- How many records it wrote: by as much listed has risen
abbrev pub new_records : Kept → HostCall → ℕ
new_records k c = listed_in (mark_left c) - listed_in k.mark

-- After an accepted call: its mark, and so many more records
abbrev pub kept_then : Kept → HostCall → Kept
kept_then k c = record { mark = mark_left c; rings = k.rings ++ first_records (new_records k c) (returned c).rings }

-- After any call: a refused one changes nothing
unfoldable pub kept_after : Kept → HostCall → Kept
kept_after k c = cond (is_refused c) k (kept_then k c)

-- After a list of calls, the first of the list made first
unfoldable pub kept_by : Kept → List HostCall → Kept
kept_by k [] = k
kept_by k (c ∷ calls) = kept_by (kept_after k c) calls

-- ---- the lists of calls

-- A call that is refused, whatever it was handed, or that was handed the sheet and the mark as it stands
abbrev pub HostAllowed : List ℕ → Kept → HostCall → Type 0
HostAllowed sheet k c = (is_refused c ≡ true) ⊎ ((c.sheet ≡ sheet) × (c.mark ≡ k.mark))

abbrev pub HostHistory : List ℕ → Kept → List HostCall → Type 0
HostHistory sheet k [] = Unit {0}
HostHistory sheet k (c ∷ calls) = HostAllowed sheet k c × HostHistory sheet (kept_after k c) calls

-- What an accepted call does: it restores its mark, unless that has no bytes, runs and saves
unfoldable pub calls_in : HostCall → List Call
calls_in c =
    unless_refused (read_sheet c.sheet) (λ r. []) (λ mol.
    unless_refused (search_for mol c.mark) (λ r. []) (λ q.
    cond (eqb (length c.mark) 0) [] (restores mol c.mark ∷ [])
    ++ (runs mol q c.budget c.rings ∷ saves mol (search_after q (run_search mol q c.budget c.rings)) c.next ∷ [])))

-- And a list of calls, of which those that are refused do nothing
unfoldable pub all_calls_in : List HostCall → List Call
all_calls_in [] = []
all_calls_in (c ∷ calls) = cond (is_refused c) [] (calls_in c) ++ all_calls_in calls

-- Some call of the list returned 101
unfoldable pub returned_done : List HostCall → Bool
returned_done [] = false
returned_done (c ∷ calls) = eqb (returned c).number 101 || returned_done calls

-- ---- the starts

-- The mark that a host keeps at first, to start a search of a kind, s and t that rule 16 allows on the record:
-- that of the fresh search, or no bytes for the ring search
abbrev pub FirstMark : Molecule → ℕ → ℕ → ℕ → List ℕ → Type 0
FirstMark R kind s t first =
    (kind_kept R.atoms kind s t ≡ true)
    × ((first ≡ mark_text R (fresh_search kind s t)) ⊎ ((first ≡ []) × (kind ≡ 0) × (s ≡ 0) × (t ≡ 0)))

-- The list of a search of a kind, s and t: its members, in dictionary order
abbrev pub list_of : Molecule → ℕ → ℕ → ℕ → List (List ℕ)
list_of R kind s t = members (family_of R kind s t)

-- ---- what holds after the calls

-- Calls handed the sheet of the record R and the mark as it stands, with 9,815 bytes for the next mark
pub record HostGoesOn (sheet : List ℕ) (R : Molecule) (k : Kept) : Type 0 where
  -- are not refused
  pub call_accepted :
      (c : HostCall) → c.sheet ≡ sheet → c.mark ≡ k.mark → mark_room ≤ length c.next → is_refused c ≡ false
  -- and with 2 × n × n trials and n + 1 bytes list a member, or return 101 or 102
  pub progress :
      (c : HostCall) → c.sheet ≡ sheet → c.mark ≡ k.mark → mark_room ≤ length c.next →
      2 * R.atoms * R.atoms ≤ c.budget → R.atoms + 1 ≤ length c.rings →
      (listed_in k.mark < listed_in (kept_after k c).mark) ⊎ ((returned c).number ≡ 101) ⊎ ((returned c).number ≡ 102)

-- What the host keeps, k, and what stands, x, after calls on the sheet of the record R;
-- at first the host kept the mark `first`, and x₀ stood
pub record HostStands
    (sheet : List ℕ) (R : Molecule) (first : List ℕ) (x₀ : Standing)
    (calls : List HostCall) (k : Kept) (x : Standing) : Type 0 where
  -- what the calls did is a list of runs, saves and restores that demand 3 speaks of
  pub is_history : History R x₀ (all_calls_in calls)
  -- the mark kept is that of the search as it stands; or none, where it was none at first and nothing was done since
  pub mark_stands : (k.mark ≡ mark_text R x.search) ⊎ ((k.mark ≡ []) × (first ≡ []) × (x ≡ x₀))
  pub listed_known : listed_in k.mark ≡ x.search.listed
  -- the records kept are the ring sheet
  pub records_kept : k.rings ≡ x.sheet
  pub goes_on : HostGoesOn sheet R k

-- What holds after calls that started a search of a kind, s and t
pub record HostDemand
    (sheet : List ℕ) (R : Molecule) (kind s t : ℕ) (first : List ℕ)
    (calls : List HostCall) (k : Kept) (x : Standing) : Type 0 where
  pub stands : HostStands sheet R first (start kind s t) calls k x
  pub demand : Demand R kind s t (all_calls_in calls) x
  -- the records kept are the first of the list, as many as the mark's listed count says
  pub records_first : k.rings ≡ records (take (listed_in k.mark) (list_of R kind s t))
  -- after a call that returned 101 they are all of it
  pub done_whole : returned_done calls ≡ true → k.rings ≡ records (list_of R kind s t)

-- What holds after calls that began with a mark of any kind, which restores the search q
pub record HostFromMark
    (sheet : List ℕ) (R : Molecule) (mark : List ℕ) (q : Search)
    (calls : List HostCall) (k : Kept) (x : Standing) : Type 0 where
  pub stands : HostStands sheet R mark (restored_start q) calls k x
  pub from_mark : FromMark R q (all_calls_in calls) x
  -- the records kept are the first of the members that follow the mark's place, as many as listed has risen by since
  pub records_first : k.rings ≡ records (take (listed_in k.mark - q.listed) (followers R q))
  -- after a call that returned 101 they are all that follow
  pub done_whole : returned_done calls ≡ true → k.rings ≡ records (followers R q)
