-- Calls that begin anew with the search as it stands go on with the list: the past calls and they are one history.
-- What a call does to the search does not depend on the ring sheet and the trials that were there before.
use Rattle.std.specs.Prelude.{Err, Ok, Result}
use Prim.Native.Nat.{ℕ, ◌+◌}
use native.Mathlib.Nat.{add-zero}
use native.Mathlib.Omega.{arith}
use mathlib.Core.Path.{◌≡◌, refl, sym, ap, ◌∙◌}
use mathlib.Core.Logic.{inl, inr}
use mathlib.Core.List.{List, [], ◌∷◌, ◌++◌, append_assoc, append-nil}
use lib.ListN.{take}
use Rattle.molecule.specs.declared.Molecule.{Molecule}
use Rattle.refusal.specs.declared.Refusal.{Refusal}
use Rattle.search.specs.declared.Search.{Search}
use Rattle.search.specs.declared.Ran.{Ran}
use Rattle.search.specs.Entries.{run_search, run_output}
use Rattle.search.specs.Mark.{restore_mark}
use Rattle.history.specs.Calls.{Call, runs, saves, restores, Standing, after_run, after_restore, after_call}
use Rattle.history.specs.Calls.{standing, Allowed, History}
use Rattle.history.specs.Resumed.{restored_start}
use Rattle.history.proofs.Joined.{standing-joined, history-joined}

-- x is y with a ring sheet and trials before those of y
record Behind (sheet : List ℕ) (made : ℕ) (x y : Standing) : Type 0 where
  same_search : x.search ≡ y.search
  sheet_is : x.sheet ≡ sheet ++ y.sheet
  made_is : x.made ≡ made + y.made

module _ {sheet : List ℕ} {made : ℕ} where
  behind-run :
      {x y : Standing} (out : List ℕ) (answer : Result Ran Refusal) → Behind sheet made x y →
      Behind sheet made (after_run x out answer) (after_run y out answer)
  behind-run {x} {y} out (Ok r) b =
      let more = take r.used out in
      record {
        same_search = refl;
        sheet_is = ap (λ l. l ++ more) b.sheet_is ∙ append_assoc sheet y.sheet more;
        made_is = omega (arith, b.made_is);
      }
  behind-run out (Err r) b = b

  behind-restored :
      {x y : Standing} (answer : Result Search Refusal) → Behind sheet made x y →
      Behind sheet made (after_restore x answer) (after_restore y answer)
  behind-restored (Ok q) b = record { same_search = refl; sheet_is = b.sheet_is; made_is = b.made_is }
  behind-restored (Err r) b = b

  behind-call :
      {x y : Standing} (call : Call) → Behind sheet made x y → Behind sheet made (after_call x call) (after_call y call)
  unfolding after_call
  behind-call (runs mol q budget out) b = behind-run (run_output mol q budget out) (run_search mol q budget out) b
  behind-call (saves mol q buffer) b = b
  behind-call (restores mol mark) b = behind-restored (restore_mark mol mark) b

  behind-standing :
      {x y : Standing} (calls : List Call) → Behind sheet made x y →
      Behind sheet made (standing x calls) (standing y calls)
  unfolding standing
  behind-standing [] b = b
  behind-standing {x = x} {y = y} (call ∷ calls) b =
      behind-standing {x = after_call x call} {y = after_call y call} calls (behind-call call b)

  behind-allowed :
      (R : Molecule) {x y : Standing} (call : Call) → Behind sheet made x y → Allowed R y call → Allowed R x call
  behind-allowed R call b (inl e) = inl e
  behind-allowed R call b (inr h) = inr (rw b.same_search h)

  behind-history :
      (R : Molecule) {x y : Standing} (calls : List Call) → Behind sheet made x y → History R y calls →
      History R x calls
  behind-history R [] b h = tt
  behind-history R {x = x} {y = y} (call ∷ calls) b (allowed, later) = (
    behind-allowed R call b allowed,
    behind-history R {x = after_call x call} {y = after_call y call} calls (behind-call call b) later,
  )

-- what stands is behind itself without sheet and trials
restarted : (x : Standing) → Behind x.sheet x.made x (restored_start x.search)
unfolding restored_start
restarted x = record { same_search = refl; sheet_is = sym (append-nil x.sheet); made_is = sym (add-zero x.made) }

-- Past calls from x₀, and calls from the search as it then stands
module _ (R : Molecule) (x₀ : Standing) (past calls : List Call) where
  abbrev pub before : Standing
  before = standing x₀ past

  abbrev pub after : Standing
  after = standing (restored_start before.search) calls

  abbrev pub whole : Standing
  whole = standing x₀ (past ++ calls)

  behind : Behind before.sheet before.made whole after
  behind = rw (standing-joined past calls x₀) (behind-standing calls (restarted before))

  pub continued-history :
      History R x₀ past → History R (restored_start before.search) calls → History R x₀ (past ++ calls)
  continued-history h g = history-joined R past calls x₀ h (behind-history R calls (restarted before) g)

  pub continued-search : whole.search ≡ after.search
  continued-search = behind.same_search

  -- the ring sheet of the past, and then the records since
  pub continued-sheet : whole.sheet ≡ before.sheet ++ after.sheet
  continued-sheet = behind.sheet_is
