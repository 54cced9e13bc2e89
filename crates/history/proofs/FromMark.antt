-- Calls from any accepted mark list the members that follow its place, first to last, and once done exactly those.
-- What stands is the search of the mark after the trials made (`Reached`): the theory of valid searches says the rest.
use Rattle.std.specs.Prelude.{Ok}
use Prim.Native.Nat.{ℕ, ◌+◌, ◌-◌, ◌≤◌}
use native.Mathlib.Omega.{arith}
use mathlib.Core.Path.{◌≡◌, refl, sym, ap, ◌∙◌}
use mathlib.Core.Logic.{inl, inr, ◌↔◌}
use mathlib.Core.Bool.{Bool, true, false}
use mathlib.Core.List.{List, reverse, reverse-reverse, Memᴰ}
use lib.ListN.{length, take, length-take}
use Rattle.enumeration.specs.Words.{keep, members}
use Rattle.enumeration.specs.Machine.{is_done}
use Rattle.enumeration.specs.Lawful.{Lawful}
use Rattle.enumeration.specs.Listing.{goes_from, past, follows}
use Rattle.enumeration.specs.Trials.{Valid, emitted, records, following}
use Rattle.enumeration.proofs.Basics.{or-either, or_left, or_right, keep-mem, mem-keep}
use Rattle.enumeration.proofs.Order.{ascending-keep, ascending-once}
use Rattle.enumeration.proofs.Theorems.{goes_from-exactly, past-exactly, list-ascending, list-exactly, listed-rise, mark-listing, mark-complete, mark-listed, mark-extensions}
use Rattle.molecule.specs.declared.Molecule.{Molecule}
use Rattle.molecule.specs.Record.{well_formed}
use Rattle.search.specs.declared.Search.{Search}
use Rattle.search.specs.Place.{family, beginning, state_of, search_at, kind_kept, restorable}
use Rattle.search.specs.declared.Form.{Form}
use Rattle.search.specs.declared.Form.TheVariants.{New}
use Rattle.search.specs.Mark.{restore_mark}
use Rattle.search.specs.Forms.{restore_in}
use Rattle.search.proofs.MarkLaws.{family-lawful, restorable-facts, restorable-valid, restorable-bounded, search-state}
use Rattle.search.proofs.FormLaws.{form-restorable}
use Rattle.history.specs.Calls.{Call, Standing, standing, History, said_done}
use Rattle.history.specs.Resumed.{restored_start, Follows, followers, FollowingList, WholeRest, FromMark}
use Rattle.history.proofs.Reached.{Reached, state_at, reached-start, list-reached}
use Rattle.history.proofs.Stands.{Stood, stood}

-- ---- the members that follow a place

-- `follows` says what the document says
follows-exactly : (p : List ℕ) (c : ℕ) (w : List ℕ) → (follows p c w ≡ true) ↔ Follows p c w
unfolding follows
follows-exactly p c w = (there, back)
  where
    there : follows p c w ≡ true → Follows p c w
    there e = elim (or-either (goes_from p c w) (past p w) e) [
      | inl goes ↦ inl ((goes_from-exactly p c w).0 goes)
      | inr later ↦ inr ((past-exactly p w).0 later)
    ]

    back : Follows p c w → follows p c w ≡ true
    back (inl goes) = or_left (goes_from p c w) (past p w) ((goes_from-exactly p c w).1 goes)
    back (inr later) = or_right (goes_from p c w) (past p w) ((past-exactly p w).1 later)

module _ (R : Molecule) (q : Search) (good : well_formed R ≡ true) (passes : restorable R q ≡ true)
    (full : length q.prefix ≡ 128) where
  lawful : Lawful (family R q)
  lawful = family-lawful R q.kind q.s q.t

  sound : Valid (family R q) (state_of q)
  sound = restorable-valid R q passes

  -- the place of the state is that of the search
  place : reverse (state_of q).stack ≡ beginning q
  unfolding state_of
  place = reverse-reverse (beginning q)

  next-is : (state_of q).next ≡ q.next
  unfolding state_of
  next-is = refl

  following-is : following (family R q) (state_of q) ≡ followers R q
  unfolding followers
  following-is = rw (place, next-is)

  list_of : FollowingList R q
  unfolding followers
  list_of =
      let rises = ascending-keep after (members (family R q)) (list-ascending (family R q)) in
      record {
        ascending = rises;
        once = ascending-once (keep after (members (family R q))) rises;
        exactly = λ w. (there w, back w);
      }
    where
      after : List ℕ → Bool
      after = follows (beginning q) q.next

      there :
          (w : List ℕ) → Memᴰ w (keep after (members (family R q))) →
          ((family R q).member w ≡ true) × Follows (beginning q) q.next w
      there w m =
          let (listed, comes-after) = keep-mem after (members (family R q)) m in
          ((list-exactly (family R q) lawful w).0 listed, (follows-exactly (beginning q) q.next w).0 comes-after)

      back :
          (w : List ℕ) → ((family R q).member w ≡ true) × Follows (beginning q) q.next w →
          Memᴰ w (keep after (members (family R q)))
      back w (is_member, comes-after) =
          let listed = (list-exactly (family R q) lawful w).1 is_member in
          mem-keep after listed ((follows-exactly (beginning q) q.next w).1 comes-after)

  -- ---- calls from the mark

  kinds : kind_kept R.atoms q.kind q.s q.t ≡ true
  kinds = (restorable-facts R q passes).kind-kept

  -- they begin with the search at its state
  pub first-reached : Reached R q.kind q.s q.t (state_of q) false 0 (restored_start q)
  first-reached =
      let same : q ≡ search_at q.kind q.s q.t (state_of q) = sym (search-state R q passes full) in
      reached-start R q.kind q.s q.t good kinds (state_of q) sound
      (restorable-bounded R q passes) (restored_start q) (ap restored_start same)

  -- the counts of the state are those of the search
  trials-same : (state_of q).trials ≡ q.trials
  unfolding state_of
  trials-same = refl

  extensions-same : (state_of q).extensions ≡ q.extensions
  unfolding state_of
  extensions-same = refl

  listed_same : (state_of q).listed ≡ q.listed
  unfolding state_of
  listed_same = refl

  module _ (said : Bool) (k : ℕ) (x : Standing) (r : Reached R q.kind q.s q.t (state_of q) said k x) where
    abbrev now : Stood R q.kind q.s q.t (state_of q) said k x
    now = stood R q.kind q.s q.t good kinds (state_of q) sound said k x r

    -- what the trials listed
    abbrev found : List (List ℕ)
    found = emitted (family R q) k (state_of q)

    -- the first members that follow
    listing : found ≡ take (length found) (followers R q)
    listing = rw following-is at (mark-listing (family R q) lawful k (state_of q) sound)

    -- listed has risen by their number
    risen : x.search.listed ≡ q.listed + length found
    risen = omega (arith, now.parts.listed_is, listed-rise (family R q) k (state_of q), listed_same)

    first : x.sheet ≡ records (take (x.search.listed - q.listed) (followers R q))
    first =
        let as_many : x.search.listed - q.listed ≡ length found = omega (arith, risen) in
        rw as_many (r.sheet_is ∙ ap records listing)

    most : x.search.listed ≤ q.listed + length (followers R q)
    most = omega (arith, risen, ap length listing, length-take (length found) (followers R q))

    whole : is_done (family R q).atoms (state_at R q.kind q.s q.t (state_of q) k) ≡ true → WholeRest R q x
    whole d =
        let all_listed = mark-complete (family R q) lawful k (state_of q) sound d in
        let listed = now.parts.listed_is ∙ mark-listed (family R q) lawful k (state_of q) sound d in
        let extended = now.parts.extensions_is ∙ mark-extensions (family R q) lawful k (state_of q) sound d in
        record {
          whole_sheet = r.sheet_is ∙ ap records (all_listed ∙ following-is);
          whole_listed = rw (listed_same, following-is) at listed;
          whole_extensions = rw (extensions-same, place, next-is) at extended;
        }

    trials-risen : x.search.trials ≡ q.trials + x.made
    trials-risen = rw trials-same at now.trials_are

  reached-after :
      (calls : List Call) → History R (restored_start q) calls →
      let x = standing (restored_start q) calls in
      (k : ℕ) × Reached R q.kind q.s q.t (state_of q) (said_done calls) k x
  reached-after calls h =
      list-reached R q.kind q.s q.t good kinds (state_of q) sound
      calls (restored_start q) h false 0 first-reached

  from-search :
      (calls : List Call) → History R (restored_start q) calls → FromMark R q calls (standing (restored_start q) calls)
  from-search calls h =
      let (k, r) = reached-after calls h in
      holds k (standing (restored_start q) calls) r
    where
      holds :
          (k : ℕ) (x : Standing) → Reached R q.kind q.s q.t (state_of q) (said_done calls) k x →
          FromMark R q calls x
      holds k x r =
          let said = said_done calls in
          let standing-now = now said k x r in
          record {
            search_is = standing-now.search_is;
            following_list = list_of;
            sheet_first = first said k x r;
            listed_least = omega (arith, risen said k x r);
            listed_most = most said k x r;
            trials_sum = trials-risen said k x r;
            done_whole = λ e. whole said k x r (standing-now.done_at e);
            said-done = standing-now.said-done;
            goes_on = standing-now.goes_on;
          }

-- Over every mark in either form that a restore accepts, and every list of calls from it
pub form-from-mark :
    (form : Form) (R : Molecule) (mark : List ℕ) (q : Search) → restore_in form R mark ≡ Ok q →
    (calls : List Call) → History R (restored_start q) calls →
    FromMark R q calls (standing (restored_start q) calls)
form-from-mark form R mark q e =
    let (good, passes, full) = form-restorable form R mark q e in
    from-search R q good passes full

-- and of a new mark
pub from_mark :
    (R : Molecule) (mark : List ℕ) (q : Search) → restore_mark R mark ≡ Ok q →
    (calls : List Call) → History R (restored_start q) calls →
    FromMark R q calls (standing (restored_start q) calls)
from_mark = form-from-mark New
