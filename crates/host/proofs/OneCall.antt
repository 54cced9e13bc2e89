-- One call from C, handed the sheet and the mark as it stands, is a run of the search as it stands.
-- Calls reach that search (`Reached`), so its mark restores it; what the entry returns and leaves is `resume-accepted`.
use Rattle.std.specs.Prelude.{Ok}
use Prim.Native.Nat.{ℕ, ◌≤◌, ◌<◌}
use native.Mathlib.Omega.{arith}
use mathlib.Core.Path.{◌≡◌, refl, sym, ap, ◌∙◌}
use mathlib.Core.Logic.{◌⊎◌, inl, inr}
use mathlib.Core.Bool.{Bool, true, false, ◌||◌, cond}
use mathlib.Core.List.{List, [], ◌∷◌, ◌++◌, append_assoc}
use lib.ListN.{length, take, drop}
use lib.Seq.{take-append_seam, drop-append_seam}
use lib.Dec.{eqb}
use borrow.Author.Tests.{lt-leb, le-ltb, ne_eqb}
use Rattle.enumeration.specs.declared.Stop.{Stop}
use Rattle.enumeration.specs.declared.Stop.TheVariants.{Done, Limit, Spent, Full}
use Rattle.enumeration.specs.Words.{Family}
use Rattle.enumeration.specs.Machine.{State, is_done}
use Rattle.enumeration.specs.Run.{Outcome, run, record_of, stop_number}
use Rattle.enumeration.specs.Trials.{Valid, emitted, records}
use Rattle.enumeration.specs.RunFacts.{RunFacts}
use Rattle.enumeration.proofs.Theorems.{run-outcome}
use Rattle.molecule.specs.declared.Molecule.{Molecule}
use Rattle.molecule.specs.Record.{well_formed}
use Rattle.sheet.specs.Read.{read_sheet}
use Rattle.search.specs.declared.Search.{Search}
use Rattle.search.specs.declared.Ran.{Ran}
use Rattle.search.specs.Place.{family_of, state_of, search_at, kind_kept}
use Rattle.search.specs.Entries.{run_search}
use Rattle.search.specs.Mark.{mark_text, restore_mark}
use Rattle.search.proofs.Restores.{restored-facts}
use Rattle.history.specs.Calls.{Call, runs, saves, restores, Standing, after_call, standing, Allowed, History}
use Rattle.history.specs.Calls.{is_done_stop, says_done}
use Rattle.history.specs.Demand.{Progress, GoesOn}
use Rattle.history.proofs.Entered.{ran_at, moved_by}
use Rattle.history.proofs.Reached as history
use Rattle.history.proofs.Joined.{standing-joined, history-joined}
use Rattle.history.proofs.Stands as stands
use Rattle.host.specs.Gate.{mark_room, gated}
use Rattle.host.specs.Resume.{search_for, mark_size, listed_in}
use Rattle.host.specs.Calls.{HostCall, returned, is_refused, Kept, first_records, mark_left, new_records, kept_after, calls_in}
use Rattle.host.proofs.Answers.{search-restored}
use Rattle.host.proofs.Sizes.{listed-restored, mark-some}
use Rattle.host.proofs.Laws.{stops, Went, resume-accepted}

-- as many records as words are the records of the words
first-records : (ws : List (List ℕ)) (rest : List ℕ) → first_records (length ws) (records ws ++ rest) ≡ records ws
unfolding first_records records record_of
first-records [] rest = refl
first-records (w ∷ ws) rest =
    rw (
      append_assoc w (records ws) rest,
      take-append_seam w (records ws ++ rest),
      drop-append_seam w (records ws ++ rest),
      first-records ws rest,
    )

-- 101 is the number of the stop done
stop-done : (why : Stop) → is_done_stop why ≡ eqb (stop_number why) 101
stop-done Done = refl
stop-done Limit = refl
stop-done Spent = refl
stop-done Full = refl

-- ---- a listing, and what is known between its calls

-- What the calls of a listing keep constant: the sheet and its record, the kind, s and t of the search,
-- the state that it began with, the mark that was kept at first and what stood then
pub record Listing : Type 0 where
  pub sheet : List ℕ
  pub mol : Molecule
  pub kind : ℕ
  pub s : ℕ
  pub t : ℕ
  pub origin : State
  pub first : List ℕ
  pub began : Standing
  pub read : read_sheet sheet ≡ Ok mol
  pub formed : well_formed mol ≡ true
  pub kept : kind_kept mol.atoms kind s t ≡ true
  pub sound : Valid (family_of mol kind s t) origin

-- what it lists
abbrev pub lists : Listing → Family
lists L = family_of L.mol L.kind L.s L.t

-- the state after so many trials
abbrev pub state_in : Listing → ℕ → State
state_in L n = history.state_at L.mol L.kind L.s L.t L.origin n

-- x is what stands after n trials; said: a call returned 101
abbrev pub ReachedIn : Listing → Bool → ℕ → Standing → Type 0
ReachedIn L said n x = history.Reached L.mol L.kind L.s L.t L.origin said n x

-- What the host keeps and what stands: the mark names the search, its listed count is known, the records are the sheet
pub record Agrees (L : Listing) (said : Bool) (k : Kept) (x : Standing) : Type 0 where
  pub count : ℕ
  pub reached : ReachedIn L said count x
  pub named : search_for L.mol k.mark ≡ Ok x.search
  pub mark_stands : (k.mark ≡ mark_text L.mol x.search) ⊎ ((k.mark ≡ []) × (L.first ≡ []) × (x ≡ L.began))
  pub listed_known : listed_in k.mark ≡ x.search.listed
  pub records_kept : k.rings ≡ x.sheet

-- the laws of what calls reach, for a listing
module _ (L : Listing) {said : Bool} {n : ℕ} {x : Standing} (r : ReachedIn L said n x) where
  parts_in : stands.Parts L.kind L.s L.t (state_in L n) x.search
  parts_in =
      stands.parts-of
      L.mol L.kind L.s L.t L.formed L.kept L.origin L.sound said n x r

  pub done-in : said ≡ true → is_done L.mol.atoms (state_of x.search) ≡ true
  done-in =
      stands.said-stands
      L.mol L.kind L.s L.t L.formed L.kept L.origin L.sound said n x r

  pub on_in : GoesOn L.mol x
  on_in =
      stands.goes_on
      L.mol L.kind L.s L.t L.formed L.kept L.origin L.sound said n x r

  state-in : state_of x.search ≡ state_in L n
  state-in =
      history.reached-state
      L.mol L.kind L.s L.t L.formed L.kept L.origin L.sound said n x r

  restored-in : after_call x (restores L.mol (mark_text L.mol x.search)) ≡ x
  restored-in =
      history.after-restore
      L.mol L.kind L.s L.t L.formed L.kept L.origin L.sound said n x r

  allowed-in :
      (call : Call) → Allowed L.mol x call → (m : ℕ) × ReachedIn L (said || says_done call) m (after_call x call)
  allowed-in =
      history.allowed-reached
      L.mol L.kind L.s L.t L.formed L.kept L.origin L.sound said n x r

  module _ (budget : ℕ) (out : List ℕ) where
    -- a run by the definition
    abbrev outcome-in : Outcome
    outcome-in = run (lists L) budget (length out) (state_in L n)

    ran-in : run_search L.mol x.search budget out ≡ Ok (ran_at L.kind L.s L.t outcome-in)
    ran-in =
        history.reached-runs
        L.mol L.kind L.s L.t L.formed L.kept L.origin L.sound said n x r budget out

    moved_in : after_call x (runs L.mol x.search budget out) ≡ moved_by L.kind L.s L.t x outcome-in
    moved_in =
        history.after_run
        L.mol L.kind L.s L.t L.formed L.kept L.origin L.sound said n x r budget out

-- ---- what the entry returns and leaves

-- the mark of a search has bytes, and where it restores the search it has its listed count
pub mark-counts :
    (mol : Molecule) (mark : List ℕ) (q : Search) → restore_mark mol mark ≡ Ok q → listed_in mark ≡
    q.listed
mark-counts mol mark q e = listed-restored mol mark q (restored-facts mol mark q e)

-- ---- the call

-- the restore that an accepted call does first
abbrev opening : Molecule → List ℕ → List Call
opening mol mark = cond (eqb (length mark) 0) [] (restores mol mark ∷ [])

-- the call is handed the sheet and the mark as it stands
pub record HandedOn (L : Listing) (k : Kept) (c : HostCall) : Type 0 where
  pub same_sheet : c.sheet ≡ L.sheet
  pub same_mark : c.mark ≡ k.mark

module _
    {L : Listing} {said : Bool} {k : Kept} {x : Standing} (v : Agrees L said k x)
    (c : HostCall) (h : HandedOn L k c) where
  abbrev outcome : Outcome
  outcome = outcome-in L v.reached c.budget c.rings

  -- what stands after its run
  abbrev pub ran_to : Standing
  ran_to = moved_by L.kind L.s L.t x outcome

  abbrev pub ran : Ran
  ran = ran_at L.kind L.s L.t outcome

  pub ran-is : run_search L.mol x.search c.budget c.rings ≡ Ok ran
  ran-is = ran-in L v.reached c.budget c.rings

  pub no_room : length c.next < mark_room → is_refused c ≡ true
  unfolding is_refused gated
  no_room short =
      let room = lt-leb mark_room (length c.next) short in
      rw (h.same_sheet, h.same_mark, L.read, v.named, room)

  ran-reached : (n : ℕ) × ReachedIn L (said || is_done_stop outcome.stop) n ran_to
  unfolding says_done
  ran-reached =
      let p = allowed-in L v.reached (runs L.mol x.search c.budget c.rings) (inr (refl, refl)) in
      rw (moved_in L v.reached c.budget c.rings, ran-is) at p

  ran_on : GoesOn L.mol ran_to
  ran_on = on_in L ran-reached.1

  -- ---- with room for the mark

  module _ (room : mark_room ≤ length c.next) where
    -- what the entry returns and leaves, of the run by the definition
    told : Went c.sheet c.mark c.budget c.rings c.next L.mol x.search
    told =
        resume-accepted c.sheet c.mark c.budget c.rings c.next L.mol x.search (ap read_sheet h.same_sheet ∙ L.read)
        (ap (search_for L.mol) h.same_mark ∙ v.named) room

    ran-told : told.ran ≡ ran
    ran-told = let both = sym told.stopped ∙ ran-is in cc

    number_is : (returned c).number ≡ stop_number outcome.stop
    number_is = told.number_is ∙ ap (λ (a : Ran). stop_number a.stop) ran-told

    pub not-refused : is_refused c ≡ false
    unfolding is_refused
    not-refused = le-ltb (returned c).number 101 (omega (arith, number_is, stops outcome.stop))

    -- the mark that it leaves is that of the search that the run returned
    abbrev new-mark : List ℕ
    new-mark = mark_text L.mol ran_to.search

    next-is : (returned c).next_mark ≡ new-mark ++ drop (length new-mark) c.next
    next-is = rw ran-told at told.mark_is

    size_is : mark_size (returned c).next_mark ≡ length new-mark
    size_is = rw ran-told at told.size_is

    mark_is : mark_left c ≡ new-mark
    mark_is =
        ap (λ (n : ℕ). take n (returned c).next_mark) size_is
        ∙ ap (take (length new-mark)) next-is
        ∙ take-append_seam new-mark (drop (length new-mark) c.next)

    ran-counts : listed_in new-mark ≡ ran_to.search.listed
    ran-counts = mark-counts L.mol new-mark ran_to.search ran_on.restore_accepted

    -- its records are those of the members that the run lists, by whose number listed has risen
    abbrev new : List (List ℕ)
    new = emitted (lists L) outcome.made (state_in L v.count)

    outcome-holds : RunFacts (lists L) c.budget (length c.rings) (state_in L v.count) outcome
    outcome-holds = run-outcome (lists L) c.budget (length c.rings) (state_in L v.count)

    rings-is : (returned c).rings ≡ records new ++ drop (length (records new)) c.rings
    rings-is =
        let parts = parts_in L v.reached in
        rw (ran-told, state-in L v.reached, parts.kind_is, parts.s_is, parts.t_is) at told.rings_are

    ran-listed : ran_to.search.listed ≡ outcome.state.listed
    unfolding search_at
    ran-listed = refl

    risen : new_records k c ≡ length new
    risen =
        let before = (parts_in L v.reached).listed_is in
        omega (arith, ap listed_in mark_is, ran-counts, v.listed_known, ran-listed, outcome-holds.listing)

    new-records : first_records (new_records k c) (returned c).rings ≡ outcome.bytes
    new-records =
        rw (risen, rings-is) (first-records new (drop (length (records new)) c.rings) ∙ sym outcome-holds.wrote)

    kept_is : kept_after k c ≡ record { mark = new-mark; rings = k.rings ++ outcome.bytes }
    unfolding kept_after
    kept_is = rw (not-refused, new-records, mark_is)

    -- what is kept then agrees with what stands after the run
    pub ran-agrees : Agrees L (said || eqb (returned c).number 101) (kept_after k c) ran_to
    ran-agrees =
        let some = mark-some L.mol ran_to.search in
        rw (kept_is, number_is, ← stop-done outcome.stop)
        (record {
          count = ran-reached.0;
          reached = ran-reached.1;
          named = sym (search-restored L.mol new-mark some) ∙ ran_on.restore_accepted;
          mark_stands = inl refl;
          listed_known = ran-counts;
          records_kept = ap (λ (l : List ℕ). l ++ outcome.bytes) v.records_kept;
        })

    -- a run that lists a member, or says done or limit, says so to the host
    pub call-progress :
        Progress x.search ran →
        (listed_in k.mark < listed_in (kept_after k c).mark) ⊎ ((returned c).number ≡ 101) ⊎ ((returned c).number ≡ 102)
    call-progress (inl more) = inl (omega (arith, v.listed_known, ran-agrees.listed_known))
    call-progress (inr (inl e)) = inr (inl (number_is ∙ ap stop_number e))
    call-progress (inr (inr (e, at-limit))) = inr (inr (number_is ∙ ap stop_number e))

    -- ---- what the call does

    abbrev last-two : List Call
    last-two = runs L.mol x.search c.budget c.rings ∷ saves L.mol ran_to.search c.next ∷ []

    calls_are : calls_in c ≡ opening L.mol k.mark ++ last-two
    unfolding calls_in
    calls_are = rw (h.same_sheet, L.read, h.same_mark, v.named, ran-is)

    -- the restore is one of the mark of the search as it stands, and leaves all as it is
    abbrev Opened : List ℕ → Type 0
    Opened mark = History L.mol x (opening L.mol mark) × (standing x (opening L.mol mark) ≡ x)

    opened : Opened k.mark
    opened = go v.mark_stands
      where
        go :
            (k.mark ≡ mark_text L.mol x.search) ⊎ ((k.mark ≡ []) × (L.first ≡ []) × (x ≡ L.began)) →
            Opened k.mark
        go (inl e) =
            rw (e, ne_eqb (length (mark_text L.mol x.search)) 0 (mark-some L.mol x.search))
            ((inr (refl, refl), tt), unfold standing in (restored-in L v.reached))
        go (inr (none, first-none, unmoved)) = rw none (tt, unfold standing in refl)

    two-history : History L.mol x last-two
    two-history = (inr (refl, refl), rw (moved_in L v.reached c.budget c.rings) (inr (refl, refl), tt))

    two-stand : standing x last-two ≡ ran_to
    unfolding standing
    two-stand =
        let ran = after_call x (runs L.mol x.search c.budget c.rings) in
        history.after-save ran L.mol ran_to.search c.next ∙ moved_in L v.reached c.budget c.rings

    pub call-history : History L.mol x (calls_in c)
    call-history =
        rw calls_are
        (history-joined L.mol (opening L.mol k.mark) last-two x opened.0 (rw opened.1 two-history))

    pub call-stands : standing x (calls_in c) ≡ ran_to
    call-stands =
        rw calls_are
        (standing-joined (opening L.mol k.mark) last-two x
        ∙ ap (λ (y : Standing). standing y last-two) opened.1
        ∙ two-stand)
