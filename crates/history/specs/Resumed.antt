-- Calls from an accepted mark (document 01, "Marks"): what holds of the search, the ring sheet and the trials after any
-- list of them. The counts of the mark are taken as they are.
use Rattle.std.specs.Prelude.{ℕ, ◌+◌, ◌-◌, ◌≤◌, ◌≡◌, ◌↔◌, ◌⊎◌, true, length, take}
use mathlib.Core.List.{List, [], ◌∷◌, ◌++◌, Memᴰ}
use Rattle.enumeration.specs.Words.{earlier, keep, members}
use Rattle.enumeration.specs.Machine.{is_done}
use Rattle.enumeration.specs.Listing.{Ascending, NoRepeats, follows, open_words}
use Rattle.enumeration.specs.Trials.{steps, records}
use Rattle.molecule.specs.declared.Molecule.{Molecule}
use Rattle.search.specs.declared.Search.{Search}
use Rattle.search.specs.Place.{family, beginning, state_of, search_at}
use Rattle.history.specs.Calls.{Call, Standing, said_done}
use Rattle.history.specs.Demand.{GoesOn}

-- At first: the search that the mark restored, an empty sheet, no trial made
unfoldable pub restored_start : Search → Standing
restored_start q = record { search = q; sheet = []; made = 0 }

-- w begins with p and its next atom is at least c,
-- or it comes later in dictionary order than every list beginning with p
abbrev pub Follows : List ℕ → ℕ → List ℕ → Type 0
Follows p c w =
    ((b : ℕ) × (v : List ℕ) × (w ≡ p ++ b ∷ v) × (c ≤ b)) ⊎
    ((v : List ℕ) → earlier (p ++ v) w ≡ true)

-- The members that follow the place of a search, its beginning p and next atom c,
-- in their order
unfoldable pub followers : Molecule → Search → List (List ℕ)
followers R q = keep (follows (beginning q) q.next) (members (family R q))

-- That list: each member that follows once, in dictionary order, and nothing else
pub record FollowingList (R : Molecule) (q : Search) : Type 0 where
  pub ascending : Ascending (followers R q)
  pub once : NoRepeats (followers R q)
  pub exactly :
      (w : List ℕ) →
      Memᴰ w (followers R q) ↔ (((family R q).member w ≡ true) × Follows (beginning q) q.next w)

-- Once the search is done
pub record WholeRest (R : Molecule) (q : Search) (x : Standing) : Type 0 where
  -- the sheet is exactly the members that follow, in order
  pub whole_sheet : x.sheet ≡ records (followers R q)
  -- listed has risen by their number, extensions by that of the non-empty proper beginnings of members that follow
  pub whole_listed : x.search.listed ≡ q.listed + length (followers R q)
  pub whole_extensions :
      x.search.extensions ≡
      q.extensions + length (keep (follows (beginning q) q.next) (open_words (family R q)))

-- What holds of what stands, x, after the calls on the record R that began with the search q of a mark
pub record FromMark (R : Molecule) (q : Search) (calls : List Call) (x : Standing) : Type 0 where
  -- the search is that of the mark after as many trials as were made, of the same kind, s and t
  pub search_is : x.search ≡ search_at q.kind q.s q.t (steps (family R q) x.made (state_of q))
  -- the sheet is the first of the members that follow, as many as listed has risen by
  pub following_list : FollowingList R q
  pub sheet_first : x.sheet ≡ records (take (x.search.listed - q.listed) (followers R q))
  pub listed_least : q.listed ≤ x.search.listed
  pub listed_most : x.search.listed ≤ q.listed + length (followers R q)
  -- trials has risen by the sum of the trials made
  pub trials_sum : x.search.trials ≡ q.trials + x.made
  -- a search that is done, and so one after a run that said done, has listed all that follow
  pub done_whole : is_done R.atoms (state_of x.search) ≡ true → WholeRest R q x
  pub said-done : said_done calls ≡ true → is_done R.atoms (state_of x.search) ≡ true
  pub goes_on : GoesOn R x
