-- Demand 3 of document 01: `Demand` holds after every list of runs, saves, restores of the present mark and refusals.
-- What stands is the fresh search after the trials made (`Reached`), and of that the theory of a search says the rest.
use Prim.Native.Nat.{ℕ, ◌-◌, ◌*◌, ◌≤◌}
use native.Mathlib.Omega.{arith}
use mathlib.Core.Path.{◌≡◌, refl, ap, ◌∙◌, subst}
use mathlib.Core.Bool.{Bool, true, false}
use mathlib.Core.List.{List}
use lib.ListN.{length, take, length-take}
use Rattle.enumeration.specs.Words.{Family, members}
use Rattle.enumeration.specs.Machine.{fresh, is_done}
use Rattle.enumeration.specs.Lawful.{Lawful}
use Rattle.enumeration.specs.Trials.{Valid, records}
use Rattle.enumeration.specs.RunFacts.{Bounded}
use Rattle.enumeration.proofs.Theorems.{list-ascending, list-once, list-exactly, open-once, open-exactly, listed-rise, fresh-valid, fresh-listing, fresh-complete, done-listed, done-trials, done-extensions, done-bound}
use Rattle.molecule.specs.declared.Molecule.{Molecule}
use Rattle.molecule.specs.Record.{well_formed}
use Rattle.search.specs.Place.{family_of, state_of, fresh_search, kind_kept}
use Rattle.search.proofs.Readings.{bounded-size, family-atoms, family-lawful}
use Rattle.history.specs.Calls.{Call, Standing, start, standing, History, said_done}
use Rattle.history.specs.Demand.{OneList, Whole, Demand}
use Rattle.history.specs.Resumed.{restored_start}
use Rattle.history.proofs.Reached.{Reached, state_at, reached-start, list-reached}
use Rattle.history.proofs.Stands.{Stood, stood}

one-list-of : (F : Family) → Lawful F → OneList F
one-list-of F L =
    record {
      ascending = list-ascending F;
      once = list-once F;
      exactly = list-exactly F L;
      beginnings_once = open-once F L;
      beginnings_exactly = open-exactly F L;
    }

module _ (R : Molecule) (kind s t : ℕ) (good : well_formed R ≡ true) (kept : kind_kept R.atoms kind s t ≡ true) where
  lawful : Lawful (family_of R kind s t)
  lawful = family-lawful R kind s t

  -- the fresh search is a valid one, its counts 0
  pub fresh-sound : Valid (family_of R kind s t) fresh
  fresh-sound = fresh-valid (family_of R kind s t) lawful

  -- At the start nothing has been tried
  pub fresh-reached : Reached R kind s t fresh false 0 (start kind s t)
  unfolding start fresh_search restored_start fresh
  fresh-reached =
      let zero-counts : Bounded fresh = record {
        trials_most = omega arith;
        extensions_most = omega arith;
        listed_most = omega arith;
      } in
      reached-start R kind s t good kept fresh fresh-sound zero-counts (start kind s t) refl

  -- ---- after k trials

  module _ (said : Bool) (k : ℕ) (x : Standing) (r : Reached R kind s t fresh said k x) where
    abbrev now : Stood R kind s t fresh said k x
    now = stood R kind s t good kept fresh fresh-sound said k x r

    first : x.sheet ≡ records (take x.search.listed (members (family_of R kind s t)))
    first = rw (now.parts.listed_is, r.sheet_is) (ap records (fresh-listing (family_of R kind s t) lawful k))

    -- as many as `listed` says were listed, so it is no more than all
    most : x.search.listed ≤ length (members (family_of R kind s t))
    unfolding fresh
    most =
        let F = family_of R kind s t in
        let same = now.parts.listed_is in
        let rises = listed-rise F k fresh in
        let firsts = ap length (fresh-listing F lawful k) in
        omega (arith, length-take (state_at R kind s t fresh k).listed (members F))

    whole : is_done R.atoms (state_of x.search) ≡ true → Whole R.atoms (family_of R kind s t) x
    whole e =
        subst (λ (n : ℕ). Whole n (family_of R kind s t) x) (family-atoms R kind s t) (whole_of (now.done_at e))
      where
        whole_of :
            is_done (family_of R kind s t).atoms (state_at R kind s t fresh k) ≡ true →
            Whole (family_of R kind s t).atoms (family_of R kind s t) x
        whole_of d =
            let F = family_of R kind s t in
            let same = now.parts in
            record {
              whole_sheet = r.sheet_is ∙ ap records (fresh-complete F lawful k d);
              whole_listed = same.listed_is ∙ done-listed F lawful k d;
              trials_equation = rw (same.trials_is, same.extensions_is) (done-trials F lawful k d);
              extensions_counted = same.extensions_is ∙ done-extensions F lawful k d;
              extensions_bound = rw same.extensions_is (done-bound F lawful F.atoms lawful.short k d);
            }

    -- a search of kind 2 lists no ring of more than s atoms
    bounded :
        kind ≡ 2 → is_done R.atoms (state_of x.search) ≡ true →
        x.search.extensions ≤ (s - 1) * length (members (family_of R kind s t))
    bounded two e =
        rw now.parts.extensions_is
        (done-bound (family_of R kind s t) lawful s (bounded-size R kind s t two) k (now.done_at e))

    trials-made : x.search.trials ≡ x.made
    unfolding fresh
    trials-made = omega (arith, now.trials_are)

  -- ---- all of it

  demand-of :
      (calls : List Call) (k : ℕ) (x : Standing) → Reached R kind s t fresh (said_done calls) k x →
      Demand R kind s t calls x
  demand-of calls k x r =
      let said = said_done calls in
      let standing-now = now said k x r in
      record {
        search_is = standing-now.search_is;
        same_kind = standing-now.parts.kind_is;
        same_s = standing-now.parts.s_is;
        same_t = standing-now.parts.t_is;
        one_list = one-list-of (family_of R kind s t) lawful;
        sheet_first = first said k x r;
        listed_most = most said k x r;
        trials_sum = trials-made said k x r;
        done_whole = whole said k x r;
        done_bounded = bounded said k x r;
        said-done = standing-now.said-done;
        goes_on = standing-now.goes_on;
      }

  -- Demand 3, over every list of calls
  pub demand3 :
      (calls : List Call) → History R (start kind s t) calls → Demand R kind s t calls (standing (start kind s t) calls)
  demand3 calls h =
      let (k, r) = list-reached R kind s t good kept fresh fresh-sound calls (start kind s t) h false 0 fresh-reached in
      demand-of calls k (standing (start kind s t) calls) r
