-- The runs of a listing are calls as demand 3 speaks of them: each is handed the search as it stands.
-- So each lists the next rings, and is the last or lists one; and no more are listed than there are.
use Rattle.std.specs.Prelude.{Ok}
use Prim.Native.Nat.{ℕ, ◌+◌, ◌-◌, ◌*◌, ◌≤◌, ◌<◌}
use native.Mathlib.Nat.{mul-le-mul}
use native.Mathlib.Omega.{arith}
use mathlib.Core.Path.{◌≡◌, refl, ap, sym, ◌∙◌, subst}
use mathlib.Core.Logic.{◌⊎◌, inl, inr}
use mathlib.Core.Bool.{true, false}
use mathlib.Core.List.{List, [], ◌∷◌, ◌++◌}
use lib.ListN.{length, take, drop, length-replicate}
use lib.Seq.{drop-append_seam, take-add}
use Rattle.enumeration.specs.declared.Stop.{Stop}
use Rattle.enumeration.specs.declared.Stop.TheVariants.{Done, Limit, Spent, Full}
use Rattle.enumeration.specs.Words.{members}
use Rattle.enumeration.specs.Machine.{is_done, fresh}
use Rattle.enumeration.specs.Run.{Outcome, at_limit}
use Rattle.enumeration.specs.Trials.{steps, records}
use Rattle.enumeration.specs.RunFacts.{Bounded}
use Rattle.enumeration.proofs.Running.{records-append}
use Rattle.enumeration.proofs.Theorems.{run-outcome, run-done, run-limit}
use Rattle.molecule.specs.declared.Molecule.{Molecule}
use Rattle.molecule.specs.Record.{well_formed}
use Rattle.search.specs.declared.Search.{Search}
use Rattle.search.specs.declared.Ran.{Ran}
use Rattle.search.specs.Place.{family, state_of, search_at, fresh_search, restorable}
use Rattle.search.specs.Entries.{outcome, ran, run_search, run_output}
use Rattle.search.proofs.Views.{state-search}
use Rattle.search.proofs.Readings.{family-atoms}
use Rattle.history.specs.Calls.{Call, runs, Standing, start, after_call, standing}
use Rattle.history.specs.Demand.{Progress, Demand}
use Rattle.molecule.proofs.Bonds.{rule9}
use Rattle.history.proofs.Each.{rings-demand3, rings_kept}
use Rattle.history.proofs.Demand3.{fresh-sound, fresh-reached}
use Rattle.history.proofs.Reached.{list-reached}
use Rattle.history.proofs.Joined.{history-joined, standing-joined}
use Rattle.report.specs.Lines.{ring_lines, lines_of}
use Rattle.report.proofs.Records.{lines-of-records}
use Rattle.listing.specs.declared.Listing.TheVariants.{Rings, Counts}
use Rattle.listing.specs.Sound.{Stands}
use Rattle.listing.specs.Text.{rings_of}
use Rattle.listing.specs.Turns.{budget, output, one_run, records_in, run_records, after_stop}
use Rattle.listing.proofs.Contracts.{ran-is}

pub fresh-stands : {m : Molecule} → well_formed m ≡ true → Stands m (fresh_search 0 0 0)
unfolding start standing
fresh-stands good = record { good = good; calls = []; history = tt; search_is = refl }

-- the output of a run holds a record of 128 atoms, and is a quarter of a buffer of 65,536 bytes
output-holds : 129 ≤ length output
unfolding output
output-holds = rw length-replicate (omega arith)

pub output-fits : length output ≤ 16384
unfolding output
output-fits = rw length-replicate (omega arith)

-- a search is over: it is done, or a count stands at the limit
abbrev pub OverAt : Molecule → Search → Type 0
OverAt m q = (is_done m.atoms (state_of q) ≡ true) ⊎ (at_limit (state_of q) ≡ true)

-- ---- what any run leaves

module _ (m : Molecule) (q : Search) (b : ℕ) (out : List ℕ) where
  abbrev o : Outcome
  o = outcome m q b out

  outcome-done : o.stop ≡ Done → OverAt m (ran q o).search
  outcome-done e =
      let n = family-atoms m q.kind q.s q.t in
      let same = state-search q.kind q.s q.t o.state in
      let done = run-done (family m q) b (length out) (state_of q) e in
      inl (rw same (subst (λ (k : ℕ). is_done k o.state ≡ true) n done))

  outcome-limit : o.stop ≡ Limit → OverAt m (ran q o).search
  outcome-limit e =
      let same = state-search q.kind q.s q.t o.state in
      inr (rw same (run-limit (family m q) b (length out) (state_of q) e).1)

  -- an accepted run is that of its outcome
  ran-of : {r : Ran} → run_search m q b out ≡ Ok r → ran q o ≡ r
  unfolding run_search
  ran-of e = (ran-is q o (well_formed m) (restorable m q) e).2

  says-over :
      (why : Stop) → (o.stop ≡ why → OverAt m (ran q o).search) →
      (r : Ran) → run_search m q b out ≡ Ok r → r.stop ≡ why → OverAt m r.search
  says-over why over r e says =
      let same = ran-of e in
      subst (λ (p : Ran). OverAt m p.search) same (over (ap (λ (p : Ran). p.stop) same ∙ says))

  -- it uses no more bytes than there are
  pub used-most : (r : Ran) → run_search m q b out ≡ Ok r → r.used ≤ length out
  used-most r e =
      subst (λ (p : Ran). p.used ≤ length out) (ran-of e)
      (run-outcome (family m q) b (length out) (state_of q)).in_room

  -- and lists no fewer
  pub listed-rises : (r : Ran) → run_search m q b out ≡ Ok r → q.listed ≤ r.search.listed
  unfolding search_at state_of
  listed-rises r e =
      subst (λ (p : Ran). q.listed ≤ p.search.listed) (ran-of e)
      (omega (arith, (run-outcome (family m q) b (length out) (state_of q)).listing))

-- what stands after an accepted run: the search that it returned, and its bytes after the sheet
module _
    (x : Standing) (m : Molecule) (q : Search) (b : ℕ) (out : List ℕ) (r : Ran)
    (e : run_search m q b out ≡ Ok r) where
  after-search : (standing x (runs m q b out ∷ [])).search ≡ r.search
  unfolding standing after_call
  after-search = rw e

  after-sheet : (standing x (runs m q b out ∷ [])).sheet ≡ x.sheet ++ take r.used (run_output m q b out)
  unfolding standing after_call
  after-sheet = rw e

cancel : (a b c : List ℕ) → a ++ b ≡ a ++ c → b ≡ c
cancel a b c e = sym (drop-append_seam a b) ∙ ap (drop (length a)) e ∙ drop-append_seam a c

-- records of the first members: those up to l, and those from there to k
records-split :
    (ws : List (List ℕ)) (l k : ℕ) → l ≤ k →
    records (take k ws) ≡ records (take l ws) ++ records (take (k - l) (drop l ws))
records-split ws l k h =
    let whole : k ≡ l + (k - l) = omega arith in
    ap (λ (n : ℕ). records (take n ws)) whole
    ∙ ap records (take-add l (k - l) ws)
    ∙ records-append (take l ws) (take (k - l) (drop l ws))

-- ---- a search that stands

abbrev rings : Molecule → List (List ℕ)
rings m = members (rings_of m)

-- it is the fresh search after some number of trials, its counts at most the limit
pub record AfterTrials (m : Molecule) (q : Search) : Type 0 where
  pub made : ℕ
  pub search_is : q ≡ search_at 0 0 0 (steps (rings_of m) made fresh)
  pub bounded : Bounded (steps (rings_of m) made fresh)

abbrev standing_of : {m : Molecule} {q : Search} → Stands m q → Standing
standing_of s = standing (start 0 0 0) s.calls

module _ {m : Molecule} {q : Search} (s : Stands m q) where
  demand : Demand m 0 0 0 s.calls (standing_of s)
  demand = rings-demand3 m s.good s.calls s.history

  pub listed_most : q.listed ≤ length (rings m)
  listed_most = rw s.search_is demand.listed_most

  -- the bytes so far are the records of the rings that it has listed
  sheet_is : (standing_of s).sheet ≡ records (take q.listed (rings m))
  sheet_is = demand.sheet_first ∙ ap (λ (p : Search). records (take p.listed (rings m))) (sym s.search_is)

  pub stands_at : AfterTrials m q
  stands_at =
      let kept = rings_kept m.atoms in
      let good = s.good in
      let origin = fresh-sound m 0 0 0 good kept in
      let first = fresh-reached m 0 0 0 good kept in
      let reached = list-reached m 0 0 0 good kept fresh origin s.calls (start 0 0 0) s.history false 0 first in
      record {
        made = reached.0;
        search_is = s.search_is ∙ reached.1.search_is;
        bounded = reached.1.bounded;
      }

-- ---- one run more of it

-- the run is not refused
pub accepted : {m : Molecule} {q : Search} → Stands m q → (r : Ran) × (one_run m q ≡ Ok r)
accepted s = rw s.search_is ((demand s).goes_on.run_accepted budget output)

-- A run is the last one, and the search is over then, or it lists a ring
abbrev pub LastOrLists : Molecule → Search → Ran → Type 0
LastOrLists m q r =
    ((after_stop m r.search r.stop ≡ Counts r.search) × OverAt m r.search)
    ⊎ ((after_stop m r.search r.stop ≡ Rings m r.search) × (q.listed < r.search.listed))

module _ {m : Molecule} {q : Search} (s : Stands m q) {r : Ran} (e : one_run m q ≡ Ok r) where
  pub run-stands : Stands m r.search
  run-stands =
      let call : Call = runs m q budget output in
      let joined = standing-joined s.calls (call ∷ []) (start 0 0 0) in
      let ran = after-search (standing_of s) m q budget output r e in
      record {
        good = s.good;
        calls = s.calls ++ call ∷ [];
        history = history-joined m s.calls (call ∷ []) (start 0 0 0) s.history (inr (refl, s.search_is), tt);
        search_is = sym ran ∙ ap (λ (x : Standing). x.search) (sym joined);
      }

  -- its records are those that it wrote
  records-are : run_records m q ≡ take r.used (run_output m q budget output)
  records-are = ap (λ x. records_in x (run_output m q budget output)) e

  -- and they come after those so far
  sheet_joined : (standing_of run-stands).sheet ≡ (standing_of s).sheet ++ run_records m q
  unfolding run-stands
  sheet_joined =
      let call : Call = runs m q budget output in
      ap (λ (x : Standing). x.sheet) (standing-joined s.calls (call ∷ []) (start 0 0 0))
      ∙ after-sheet (standing_of s) m q budget output r e
      ∙ ap (λ l. (standing_of s).sheet ++ l) (sym records-are)

  -- they are the records of the rings that follow, and so the lines are theirs
  pub run-lines :
      let k = r.search.listed in
      ring_lines (run_records m q) ≡ lines_of (take (k - q.listed) (drop q.listed (rings m)))
  run-lines =
      let l = q.listed in
      let k = r.search.listed in
      let more = take (k - l) (drop l (rings m)) in
      let same = cancel (records (take l (rings m))) (run_records m q) (records more)
      (ap (λ (a : List ℕ). a ++ run_records m q) (sym (sheet_is s)) ∙ sym sheet_joined ∙ sheet_is run-stands
      ∙ records-split (rings m) l k (listed-rises m q budget output r e)) in
      ap ring_lines same ∙ lines-of-records more

  pub last-or-lists : LastOrLists m q r
  last-or-lists =
      by (rw (← s.search_is) at ((demand s).goes_on.progress budget output r trials room)) r.stop refl
    where
      atoms : m.atoms ≤ 128
      atoms = (rule9 m s.good).atoms_high

      squares : 2 * m.atoms * m.atoms ≤ 2 * 128 * 128
      squares = mul-le-mul (mul-le-mul {n₁ = 2} {n₂ = 2} (omega arith) atoms) atoms

      trials : 2 * m.atoms * m.atoms ≤ budget
      trials = omega (arith, squares)

      room : m.atoms + 1 ≤ length output
      room = omega (arith, atoms, output-holds)

      done : r.stop ≡ Done → LastOrLists m q r
      done f =
          inl (
            ap (after_stop m r.search) f,
            says-over m q budget output Done (outcome-done m q budget output) r e f,
          )

      limited : r.stop ≡ Limit → LastOrLists m q r
      limited f =
          inl (
            ap (after_stop m r.search) f,
            says-over m q budget output Limit (outcome-limit m q budget output) r e f,
          )

      by : (one_run m q ≡ Ok r → Progress q r) → (why : Stop) → r.stop ≡ why → LastOrLists m q r
      by progress why f = go (progress e) why f
        where
          go : Progress q r → (why : Stop) → r.stop ≡ why → LastOrLists m q r
          go (inl more) Done f = done f
          go (inl more) Limit f = limited f
          go (inl more) Spent f = inr (ap (after_stop m r.search) f, more)
          go (inl more) Full f = inr (ap (after_stop m r.search) f, more)
          go (inr (inl f)) why x = done f
          go (inr (inr f)) why x = limited f.0
