-- The laws of `ringlist_resume`: its numbers, that a refusal changes no output, that its run and save are not refused.
-- An accepted sheet keeps rule 9 and an accepted mark rule 12, a run keeps both, and a mark is at most 9,815 bytes.
use Rattle.std.specs.Prelude.{Err, Ok, Result}
use Prim.Native.Nat.{ℕ, ◌+◌, ◌≤◌, ◌<◌}
use native.Mathlib.Decide.{ℕ_discrete}
use native.Mathlib.Omega.{arith}
use mathlib.Core.Path.{◌≡◌, refl, ap, sym, ◌∙◌}
use mathlib.Core.Bool.{true}
use mathlib.Core.List.{List, ◌++◌}
use mathlib.Core.Logic.{◌⊎◌, inl, inr}
use lib.ListN.{length, drop}
use lib.Dec.{eqb}
use Rattle.enumeration.specs.declared.Stop.{Stop}
use Rattle.enumeration.specs.declared.Stop.TheVariants.{Done, Limit, Spent, Full}
use Rattle.enumeration.specs.Machine.{fresh}
use Rattle.enumeration.specs.Trials.{Valid, emitted, records}
use Rattle.enumeration.specs.RunFacts.{RunFacts}
use Rattle.enumeration.specs.Run.{stop_number, Outcome}
use Rattle.enumeration.proofs.Theorems.{run-outcome, run-keeps-valid}
use Rattle.refusal.specs.declared.Refusal.{Refusal}
use Rattle.refusal.specs.Number.{number_of}
use Rattle.refusal.proofs.Ranges.{Within, by-test, within-refused}
use Rattle.molecule.specs.declared.Molecule.{Molecule}
use Rattle.molecule.specs.Record.{well_formed}
use Rattle.sheet.specs.Read.{read_sheet}
use Rattle.sheet.proofs.Accepted.{accepted-well-formed}
use Rattle.search.specs.declared.Search.{Search}
use Rattle.search.specs.declared.Ran.{Ran}
use Rattle.search.specs.Place.{family, state_of, search_at, fresh_search, kind_kept, restorable}
use Rattle.search.specs.Entries.{start_rings, outcome, ran, run_search, run_output, search_after, ended, ended_number}
use Rattle.search.specs.declared.Form.TheVariants.{New}
use Rattle.search.specs.Mark.{mark_text, save_output, restore_mark}
use Rattle.search.proofs.Restores.{restored-facts}
use Rattle.search.proofs.MarkLaws.{family-lawful, restorable-valid, valid-full, fresh-restorable, run-restorable}
use Rattle.search.proofs.MarkLaws.{saved-restores, restored-restorable}
use Rattle.search.proofs.FormLaws.{form-most, form-rules}
use Rattle.history.proofs.Entered.{save-wrote}
use Rattle.mark_writer.specs.Parts.{OwnLines}
use Rattle.mark_writer.proofs.MarkSplices.{own-lines-none, own-lines-restored}
use Rattle.host.specs.Gate.{mark_room}
use Rattle.host.specs.Resume.{Resumed, refused_call, search_for, run_and_save, resume, mark_size, listed_in}
use Rattle.host.proofs.Gate.{GateNumber, goes_on, ways}
use Rattle.host.proofs.Answers.{search-fresh, search-restored, listed-short}
use Rattle.host.proofs.Sizes.{listed-restored, mark-some, mark-size, mark-listed}

-- ---- the numbers of its refusals

-- on a molecule that rule 9 allows, a mark is refused by rules 14 to 17
abbrev pub MarkNumber : ℕ → Type 0
MarkNumber k = (14 ≤ k) × (k ≤ 17)

pub mark-numbers :
    (mark : List ℕ) (mol : Molecule) (r : Refusal) → well_formed mol ≡ true → search_for mol mark ≡ Err r →
    MarkNumber (number_of r)
unfolding search_for start_rings
mark-numbers mark mol r formed e =
    within-refused 14 17 (search_for mol mark) r e
    (by-test (λ (x : Result Search Refusal). Within 14 17 x) (eqb (length mark) 0) _ _ (form-rules New mol mark formed)
    (rw formed tt))

-- ---- the search that it runs

-- rule 12 allows it, its listed count is the mark's, and the mark has its molecule's bond lines or no bytes
pub record Begun (mol : Molecule) (mark : List ℕ) (q : Search) : Type 0 where
  pub kept : restorable mol q ≡ true
  pub listed_is : listed_in mark ≡ q.listed
  pub own : OwnLines mol mark

module _ (mol : Molecule) (mark : List ℕ) (q : Search) (formed : well_formed mol ≡ true)
    (made : search_for mol mark ≡ Ok q) where
  begun_fresh : length mark ≡ 0 → Begun mol mark q
  begun_fresh none =
      let both = search-fresh mol mark formed none ∙ made in
      let same : fresh_search 0 0 0 ≡ q = cc in
      rw (← same)
      (record {
        kept = fresh-restorable mol 0 0 0 formed (unfold kind_kept in refl);
        listed_is = sym (listed-short mark (omega arith)) ∙ (unfold fresh_search search_at fresh in refl);
        own = own-lines-none mol mark none;
      })

  begun-restored : (length mark ≡ 0 → ⊥) → Begun mol mark q
  begun-restored some =
      let is : restore_mark mol mark ≡ Ok q = search-restored mol mark some ∙ made in
      record {
        kept = (restored-restorable mol mark q is).1;
        listed_is = listed-restored mol mark q (restored-facts mol mark q is);
        own = own-lines-restored mol mark q is;
      }

  pub begun : Begun mol mark q
  begun = go (ℕ_discrete (length mark) 0)
    where
      go : Dec (length mark ≡ 0) → Begun mol mark q
      go (yes none) = begun_fresh none
      go (no some) = begun-restored some

  -- rule 12 allows it,
  pub made_kept : restorable mol q ≡ true
  made_kept = begun.kept

  -- and the mark has its molecule's bond lines, or no bytes
  pub made-lines : OwnLines mol mark
  made-lines = begun.own

-- ---- its run and its save

-- rules 9 and 12 allow the search
record Runnable (mol : Molecule) (q : Search) : Type 0 where
  formed : well_formed mol ≡ true
  kept : restorable mol q ≡ true

module _ {mol : Molecule} {q : Search} (ok : Runnable mol q) (budget : ℕ) (rings : List ℕ) where
  abbrev o : Outcome
  o = outcome mol q budget rings

  -- what the run returns, and its search
  abbrev r : Ran
  r = ran q o

  abbrev result : Search
  result = search_at q.kind q.s q.t o.state

  -- the members that the run lists
  abbrev ws : List (List ℕ)
  ws = emitted (family mol q) o.made (state_of q)

  o-facts : RunFacts (family mol q) budget (length rings) (state_of q) o
  o-facts = run-outcome (family mol q) budget (length rings) (state_of q)

  run_is : run_search mol q budget rings ≡ Ok r
  unfolding run_search
  run_is = rw (ok.formed, ok.kept)

  wrote-is : run_output mol q budget rings ≡ records ws ++ drop (length (records ws)) rings
  unfolding run_output
  wrote-is = rw (ok.formed, ok.kept) (ap (λ (l : List ℕ). l ++ drop (length l) rings) o-facts.wrote)

  result-kept : restorable mol result ≡ true
  result-kept = run-restorable mol q ok.formed ok.kept budget (length rings)

  result-full : length result.prefix ≡ 128
  result-full = valid-full mol q.kind q.s q.t ok.formed o.state valid
    where
      valid : Valid (family mol q) o.state
      valid =
          run-keeps-valid (family mol q) (family-lawful mol q.kind q.s q.t)
          budget (length rings) (state_of q) (restorable-valid mol q ok.kept)

  result_fits : length (mark_text mol result) ≤ mark_room
  result_fits = form-most New mol result ok.formed result-kept

  result-listed : result.listed ≡ q.listed + length ws
  unfolding search_at state_of
  result-listed = o-facts.listing

  result-restores : search_for mol (mark_text mol result) ≡ Ok result
  result-restores =
      sym (search-restored mol (mark_text mol result) (mark-some mol result))
      ∙ saved-restores mol result ok.formed result-kept result-full

  -- what a host reads off the mark of that search, at the start of a buffer
  result-size : (rest : List ℕ) → mark_size (mark_text mol result ++ rest) ≡ length (mark_text mol result)
  result-size rest = mark-size mol result ok.formed result-kept result-full rest

  result_count : (rest : List ℕ) → listed_in (mark_text mol result ++ rest) ≡ result.listed
  result_count rest = mark-listed mol result ok.formed result-kept result-full rest

pub ran-kept :
    (mol : Molecule) (q : Search) → well_formed mol ≡ true → restorable mol q ≡ true →
    (budget : ℕ) (rings : List ℕ) (r : Ran) → Ok r ≡ run_search mol q budget rings → restorable mol r.search ≡ true
ran-kept mol q formed kept budget rings r e =
    let ok : Runnable mol q = record { formed = formed; kept = kept } in
    let both = e ∙ run_is ok budget rings in
    let same : r ≡ ran q (outcome mol q budget rings) = cc in
    rw same (result-kept ok budget rings)

-- ---- the entry

-- the numbers of the stops
pub stops : (why : Stop) → (101 ≤ stop_number why) × (stop_number why ≤ 104)
stops Done = (omega arith, omega arith)
stops Limit = (omega arith, omega arith)
stops Spent = (omega arith, omega arith)
stops Full = (omega arith, omega arith)

-- the numbers that it returns, of a refusal or a stop
abbrev pub Known : ℕ → Type 0
Known k = ((1 ≤ k) × (k ≤ 8)) ⊎ (((13 ≤ k) × (k ≤ 17)) ⊎ ((101 ≤ k) × (k ≤ 104)))

module _ (sheet mark : List ℕ) (budget : ℕ) (rings next : List ℕ) where
  abbrev pub answer : Resumed
  answer = resume sheet mark budget rings next

  -- It is turned back by a rule, and leaves both outputs as they were
  pub record Turned : Type 0 where
    pub rule : Refusal
    pub number_is : answer.number ≡ number_of rule
    pub ranged : GateNumber MarkNumber (number_of rule)
    pub rings_kept : answer.rings ≡ rings
    pub mark_kept : answer.next_mark ≡ next

  -- It goes on with the molecule that it reads and the search that the mark names: the run stops and the mark of its
  -- search is written; the mark restores that search, and the two listed counts differ by the records
  pub record Went (mol : Molecule) (given : Search) : Type 0 where
    pub ran : Ran
    pub stopped : run_search mol given budget rings ≡ Ok ran
    pub number_is : answer.number ≡ stop_number ran.stop
    pub rings_are :
        let words = emitted (family mol given) ran.made (state_of given) in
        answer.rings ≡ records words ++ drop (length (records words)) rings
    pub mark_is : answer.next_mark ≡ mark_text mol ran.search ++ drop (length (mark_text mol ran.search)) next
    pub mark_fits : length (mark_text mol ran.search) ≤ mark_room
    pub size_is : mark_size answer.next_mark ≡ length (mark_text mol ran.search)
    pub restores : search_for mol (mark_text mol ran.search) ≡ Ok ran.search
    pub counted :
        listed_in answer.next_mark ≡
        listed_in mark + length (emitted (family mol given) ran.made (state_of given))

  turned : (r : Refusal) → refused_call r rings next ≡ answer → GateNumber MarkNumber (number_of r) → Turned
  turned r e h =
      record {
        rule = r;
        number_is = sym (ap (λ (x : Resumed). x.number) e);
        ranged = h;
        rings_kept = sym (ap (λ (x : Resumed). x.rings) e);
        mark_kept = sym (ap (λ (x : Resumed). x.next_mark) e);
      }

  module _ {mol : Molecule} {given : Search} (ok : Runnable mol given)
      (is : run_and_save mol given budget rings next ≡ answer) where
    written :
        mark_room ≤ length next →
        let text = mark_text mol (result ok budget rings) in
        answer.next_mark ≡ text ++ drop (length text) next
    unfolding run_and_save
    written room =
        sym (ap (λ (x : Resumed). x.next_mark) is)
        ∙ ap (λ a. save_output mol (search_after given a) next) (run_is ok budget rings)
        ∙ save-wrote mol ok.formed (result ok budget rings) next (result-kept ok budget rings)
        (omega (arith, result_fits ok budget rings))

    went : mark_room ≤ length next → listed_in mark ≡ given.listed → Went mol given
    unfolding run_and_save
    went room listed =
        let run = run_is ok budget rings in
        let text = mark_text mol (result ok budget rings) in
        let rest = drop (length text) next in
        record {
          ran = r ok budget rings;
          stopped = run;
          number_is =
              sym (ap (λ (x : Resumed). x.number) is) ∙ ap (λ (x : Result Ran Refusal). ended_number (ended x)) run;
          rings_are = sym (ap (λ (x : Resumed). x.rings) is) ∙ wrote-is ok budget rings;
          mark_is = written room;
          mark_fits = result_fits ok budget rings;
          size_is = ap mark_size (written room) ∙ result-size ok budget rings rest;
          restores = result-restores ok budget rings;
          counted =
              ap listed_in (written room)
              ∙ result_count ok budget rings rest
              ∙ result-listed ok budget rings
              ∙ ap (λ k. k + length (ws ok budget rings)) (sym listed);
        }

  -- Neither the run nor the save is refused
  pub resume-accepted :
      (mol : Molecule) (given : Search) → read_sheet sheet ≡ Ok mol → search_for mol mark ≡ Ok given →
      mark_room ≤ length next → Went mol given
  resume-accepted mol given read made room =
      let formed = accepted-well-formed sheet mol read in
      let b = begun mol mark given formed made in
      went (record { formed = formed; kept = b.kept }) (goes_on _ _ _ _ _ read made room) room b.listed_is

  either : Turned ⊎ ((mol : Molecule) × (given : Search) × Went mol given)
  either =
      ways _ _ _ _ _ MarkNumber (mark-numbers mark) turned
      (λ mol q read made room. (mol, q, resume-accepted mol q read made room))

  -- A refusal, which has a number below 101, changes neither output
  pub resume-refused : answer.number < 101 → (answer.rings ≡ rings) × (answer.next_mark ≡ next)
  resume-refused h = elim either [
    | inl t ↦ (t.rings_kept, t.mark_kept)
    | inr (mol, given, w) ↦ absurd (omega (arith, w.number_is, stops w.ran.stop))
  ]

  -- It returns 1 to 8 and 13 to 17 for a refusal, and 101 to 104 for a stop
  pub resume-numbers : Known answer.number
  resume-numbers = elim either [
    | inl t ↦ ranged answer.number t.rule t.number_is t.ranged
    | inr (mol, given, w) ↦ let s = stops w.ran.stop in let e = w.number_is in inr (inr (omega arith, omega arith))
  ]
    where
      ranged : (k : ℕ) (r : Refusal) → k ≡ number_of r → GateNumber MarkNumber (number_of r) → Known k
      ranged k r e (inl h) = inl (omega arith, omega arith)
      ranged k r e (inr (inl h)) = inr (inl (omega arith, omega arith))
      ranged k r e (inr (inr h)) = inr (inl (omega arith, omega arith))
