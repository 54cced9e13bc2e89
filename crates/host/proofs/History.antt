-- Repeated calls from C, each handed the mark that the last accepted one wrote, are a history of demand 3.
-- By induction on the calls: an accepted one is `OneCall`, a refused one changes nothing.
use Rattle.std.specs.Prelude.{Ok}
use Prim.Native.Nat.{ℕ, ◌≤◌}
use native.Mathlib.Omega.{arith}
use native.Mathlib.Decide.{dec_le}
use mathlib.Core.Path.{◌≡◌, refl, sym, ◌∙◌}
use mathlib.Core.Logic.{◌⊎◌, inl, inr}
use mathlib.Core.Bool.{Bool, true, false, ◌||◌, cond, or-false, or_assoc}
use mathlib.Core.List.{List, [], ◌∷◌}
use lib.ListN.{length}
use lib.Dec.{eqb}
use borrow.Author.Tests.{ltb-true, ne_eqb}
use Rattle.enumeration.specs.Machine.{fresh, is_done}
use Rattle.molecule.specs.declared.Molecule.{Molecule}
use Rattle.molecule.specs.Record.{well_formed}
use Rattle.sheet.specs.Read.{read_sheet}
use Rattle.sheet.proofs.Accepted.{accepted-well-formed}
use Rattle.search.specs.declared.Search.{Search}
use Rattle.search.specs.Place.{state_of, search_at, fresh_search, kind_kept, restorable}
use Rattle.search.specs.Mark.{mark_text, restore_mark}
use Rattle.search.proofs.MarkLaws.{restorable-facts, restorable-valid, restored-restorable, restored-saves}
use Rattle.history.specs.Calls.{Call, Standing, start, standing, History}
use Rattle.history.specs.Resumed.{restored_start}
use Rattle.history.proofs.Demand3.{fresh-sound, fresh-reached, demand3}
use Rattle.history.proofs.Each.{rings-start}
use Rattle.history.proofs.FromMark.{first-reached, from_mark}
use Rattle.history.proofs.Joined.{standing-joined, history-joined}
use Rattle.host.specs.Gate.{mark_room}
use Rattle.host.specs.Resume.{search_for, listed_in}
use Rattle.host.specs.Calls.{HostCall, returned, is_refused, Kept, keeping, kept_after, kept_by, HostAllowed}
use Rattle.host.specs.Calls.{HostHistory, calls_in, all_calls_in, returned_done, FirstMark}
use Rattle.host.specs.Calls.{HostGoesOn, HostStands, HostDemand, HostFromMark}
use Rattle.host.proofs.Answers.{search-restored}
use Rattle.host.proofs.Fresh.{fresh-restores}
use Rattle.host.proofs.OneCall as call
use Rattle.host.proofs.Sizes.{mark-some}
use Rattle.host.proofs.OneCall.{Listing, ReachedIn, Agrees, HandedOn, done-in, on_in, mark-counts}

-- what a call does, refused or not
abbrev does : HostCall → List Call
does c = cond (is_refused c) [] (calls_in c)

-- a refused call does not return 101
refused-number : (c : HostCall) → is_refused c ≡ true → eqb (returned c).number 101 ≡ false
unfolding is_refused
refused-number c e = ne_eqb (returned c).number 101 (λ z. omega (arith, ltb-true (returned c).number 101 e))

-- ---- every list of calls

-- what some calls lead to: they are a history, and what is kept agrees with what stands after them
record Led (L : Listing) (said : Bool) (k : Kept) (x : Standing) (calls : List Call) : Type 0 where
  pub history : History L.mol x calls
  pub agrees : Agrees L said k (standing x calls)

module _ {L : Listing} {said : Bool} {k : Kept} {x : Standing} (v : Agrees L said k x) where
  module _ (c : HostCall) where
    abbrev LedBy : Type 0
    LedBy = Led L (said || eqb (returned c).number 101) (kept_after k c) x (does c)

    refused-led : is_refused c ≡ true → LedBy
    unfolding kept_after standing
    refused-led e = rw (refused-number c e, or-false said, e) (record { history = tt; agrees = v })

    handed-led : HandedOn L k c → Dec (mark_room ≤ length c.next) → LedBy
    handed-led h (no short) = refused-led (call.no_room v c h (omega arith))
    handed-led h (yes room) =
        let stands = call.call-stands v c h room in
        rw (call.not-refused v c h room)
        (record { history = call.call-history v c h room; agrees = rw stands (call.ran-agrees v c h room) })

    allowed-led : HostAllowed L.sheet k c → LedBy
    allowed-led (inl e) = refused-led e
    allowed-led (inr (same_sheet, same_mark)) =
        handed-led (record { same_sheet = same_sheet; same_mark = same_mark }) (dec_le mark_room (length c.next))

  -- calls from what is kept and stands now
  host-on : HostGoesOn L.sheet L.mol k
  host-on = record {
    call_accepted = λ c e f room. call.not-refused v c (handed c e f) room;
    progress = λ c e f room b l.
        call.call-progress v c (handed c e f) room
        ((on_in L v.reached).progress c.budget c.rings _ b l (call.ran-is v c (handed c e f)));
  }
    where
      handed : (c : HostCall) → c.sheet ≡ L.sheet → c.mark ≡ k.mark → HandedOn L k c
      handed c e f = record { same_sheet = e; same_mark = f }

list-led :
    {L : Listing} (calls : List HostCall) {said : Bool} {k : Kept} {x : Standing} →
    Agrees L said k x → HostHistory L.sheet k calls →
    Led L (said || returned_done calls) (kept_by k calls) x (all_calls_in calls)
unfolding returned_done kept_by all_calls_in standing
list-led [] {said} v h = rw (or-false said) (record { history = tt; agrees = v })
list-led {L} (c ∷ calls) {said} {k} {x} v (allowed, later) =
    let one = allowed-led v c allowed in
    let rest = list-led calls one.agrees later in
    rw (← or_assoc said (eqb (returned c).number 101) (returned_done calls))
    (record {
      history = history-joined L.mol (does c) (all_calls_in calls) x one.history rest.history;
      agrees = rw (standing-joined (does c) (all_calls_in calls) x) rest.agrees;
    })

-- what the calls of a listing lead to, whatever it began with
record Listed (L : Listing) (calls : List HostCall) (k : Kept) (x : Standing) : Type 0 where
  pub stands : HostStands L.sheet L.mol L.first L.began calls k x
  -- a call that returned 101 left a search that is done
  pub finished : returned_done calls ≡ true → is_done L.mol.atoms (state_of x.search) ≡ true

host-listed :
    {L : Listing} → Agrees L false (keeping L.first) L.began →
    (calls : List HostCall) → HostHistory L.sheet (keeping L.first) calls →
    Listed L calls (kept_by (keeping L.first) calls) (standing L.began (all_calls_in calls))
host-listed {L} v calls h =
    let led = list-led calls v h in
    let w = led.agrees in
    record {
      stands = record {
        is_history = led.history;
        mark_stands = w.mark_stands;
        listed_known = w.listed_known;
        records_kept = w.records_kept;
        goes_on = host-on w;
      };
      finished = done-in L w.reached;
    }

-- ---- what is kept and stands at first

module _ {L : Listing} (q : Search) (is-from : L.began ≡ restored_start q)
    (reached : ReachedIn L false 0 L.began) where
  -- a mark, which restores the search
  marked-agrees : restore_mark L.mol L.first ≡ Ok q → Agrees L false (keeping L.first) L.began
  unfolding keeping restored_start
  marked-agrees e =
      let saved = restored-saves L.mol L.first q e in
      record {
        count = 0;
        reached = reached;
        named = rw is-from (sym (search-restored L.mol L.first (rw (← saved) (mark-some L.mol q))) ∙ e);
        mark_stands = inl (rw is-from (sym saved));
        listed_known = rw is-from (mark-counts L.mol L.first q e);
        records_kept = rw is-from refl;
      }

  -- no mark, which names the fresh ring search
  unmarked-agrees : L.first ≡ [] → q ≡ fresh_search 0 0 0 → Agrees L false (keeping L.first) L.began
  unfolding keeping restored_start search_for listed_in
  unmarked-agrees none e = record {
    count = 0;
    reached = reached;
    named = rw (none, is-from, e) (unfold start in (rings-start L.mol L.formed));
    mark_stands = inr (none, none, refl);
    listed_known = rw (none, is-from, e) (unfold fresh_search search_at fresh in refl);
    records_kept = rw is-from refl;
  }

-- ---- the two theorems

-- an accepted sheet keeps rule 9
module _ (sheet : List ℕ) (R : Molecule) (read : read_sheet sheet ≡ Ok R) where
  formed : well_formed R ≡ true
  formed = accepted-well-formed sheet R read

  -- ---- calls that start a search

  module _ (kind s t : ℕ) (first : List ℕ) (starts : FirstMark R kind s t first) where
    kinds : kind_kept R.atoms kind s t ≡ true
    kinds = starts.0

    abbrev fresh-listing : Listing
    fresh-listing = record {
      sheet = sheet;
      mol = R;
      kind = kind;
      s = s;
      t = t;
      origin = fresh;
      first = first;
      began = start kind s t;
      read = read;
      formed = formed;
      kept = kinds;
      sound = fresh-sound R kind s t formed kinds;
    }

    fresh-agrees : Agrees fresh-listing false (keeping first) (start kind s t)
    fresh-agrees = go starts.1
      where
        is-from : start kind s t ≡ restored_start (fresh_search kind s t)
        is-from = unfold start restored_start in refl

        reached : ReachedIn fresh-listing false 0 (start kind s t)
        reached = fresh-reached R kind s t formed kinds

        go :
            (first ≡ mark_text R (fresh_search kind s t)) ⊎ ((first ≡ []) × (kind ≡ 0) × (s ≡ 0) × (t ≡ 0)) →
            Agrees fresh-listing false (keeping first) (start kind s t)
        go (inl marked) =
            marked-agrees (fresh_search kind s t) is-from reached (rw marked (fresh-restores R kind s t formed kinds))
        go (inr (none, kind-zero, s-zero, t-zero)) =
            unmarked-agrees (fresh_search kind s t) is-from reached none (rw (kind-zero, s-zero, t-zero))

    fresh-demand :
        (calls : List HostCall) → HostHistory sheet (keeping first) calls →
        HostDemand sheet R kind s t first calls
        (kept_by (keeping first) calls) (standing (start kind s t) (all_calls_in calls))
    fresh-demand calls h =
        let l = host-listed fresh-agrees calls h in
        let d = demand3 R kind s t formed kinds (all_calls_in calls) l.stands.is_history in
        record {
          stands = l.stands;
          demand = d;
          records_first = rw l.stands.listed_known (l.stands.records_kept ∙ d.sheet_first);
          done_whole = λ e. l.stands.records_kept ∙ (d.done_whole (l.finished e)).whole_sheet;
        }

    -- a call that returned 101 left a search that is done
    fresh-done :
        (calls : List HostCall) → HostHistory sheet (keeping first) calls → returned_done calls ≡ true →
        is_done R.atoms (state_of (standing (start kind s t) (all_calls_in calls)).search) ≡ true
    fresh-done calls h = (host-listed fresh-agrees calls h).finished

  -- ---- calls from a mark

  module _ (mark : List ℕ) (q : Search) (e : restore_mark R mark ≡ Ok q) where
    passes : restorable R q ≡ true
    passes = (restored-restorable R mark q e).1

    abbrev mark-listing : Listing
    mark-listing = record {
      sheet = sheet;
      mol = R;
      kind = q.kind;
      s = q.s;
      t = q.t;
      origin = state_of q;
      first = mark;
      began = restored_start q;
      read = read;
      formed = formed;
      kept = (restorable-facts R q passes).kind-kept;
      sound = restorable-valid R q passes;
    }

    mark-agrees : Agrees mark-listing false (keeping mark) (restored_start q)
    mark-agrees = marked-agrees q refl (first-reached R q formed passes (restored-restorable R mark q e).2) e

    mark-followed :
        (calls : List HostCall) → HostHistory sheet (keeping mark) calls →
        HostFromMark sheet R mark q calls (kept_by (keeping mark) calls)
        (standing (restored_start q) (all_calls_in calls))
    mark-followed calls h =
        let l = host-listed mark-agrees calls h in
        let d = from_mark R mark q e (all_calls_in calls) l.stands.is_history in
        record {
          stands = l.stands;
          from_mark = d;
          records_first = rw l.stands.listed_known (l.stands.records_kept ∙ d.sheet_first);
          done_whole = λ f. l.stands.records_kept ∙ (d.done_whole (l.finished f)).whole_sheet;
        }

    -- a call that returned 101 left a search that is done
    mark-done :
        (calls : List HostCall) → HostHistory sheet (keeping mark) calls → returned_done calls ≡ true →
        is_done R.atoms (state_of (standing (restored_start q) (all_calls_in calls)).search) ≡ true
    mark-done calls h = (host-listed mark-agrees calls h).finished

-- Demand 3 over every accepted sheet, every search that a host may start on it, and every list of calls from C
pub host-demand3 :
    (sheet : List ℕ) (R : Molecule) → read_sheet sheet ≡ Ok R →
    (kind s t : ℕ) (first : List ℕ) → FirstMark R kind s t first →
    (calls : List HostCall) → HostHistory sheet (keeping first) calls →
    HostDemand sheet R kind s t first calls
    (kept_by (keeping first) calls) (standing (start kind s t) (all_calls_in calls))
host-demand3 = fresh-demand

-- After a call that returned 101 the search as it stands is done
pub host-done :
    (sheet : List ℕ) (R : Molecule) → read_sheet sheet ≡ Ok R →
    (kind s t : ℕ) (first : List ℕ) → FirstMark R kind s t first →
    (calls : List HostCall) → HostHistory sheet (keeping first) calls → returned_done calls ≡ true →
    is_done R.atoms (state_of (standing (start kind s t) (all_calls_in calls)).search) ≡ true
host-done = fresh-done

-- Over every accepted sheet, every mark that its record restores, and every list of calls from C that begins with it
pub host-from-mark :
    (sheet : List ℕ) (R : Molecule) → read_sheet sheet ≡ Ok R →
    (mark : List ℕ) (q : Search) → restore_mark R mark ≡ Ok q →
    (calls : List HostCall) → HostHistory sheet (keeping mark) calls →
    HostFromMark sheet R mark q calls
    (kept_by (keeping mark) calls) (standing (restored_start q) (all_calls_in calls))
host-from-mark = mark-followed

-- After a call that returned 101 the search as it stands is done
pub host-mark-done :
    (sheet : List ℕ) (R : Molecule) → read_sheet sheet ≡ Ok R →
    (mark : List ℕ) (q : Search) → restore_mark R mark ≡ Ok q →
    (calls : List HostCall) → HostHistory sheet (keeping mark) calls → returned_done calls ≡ true →
    is_done R.atoms (state_of (standing (restored_start q) (all_calls_in calls)).search) ≡ true
host-mark-done = mark-done

-- The entry takes the fresh mark of every search that rule 16 allows on the sheet's record
pub fresh-accepted :
    (sheet : List ℕ) (R : Molecule) → read_sheet sheet ≡ Ok R →
    (kind s t : ℕ) → kind_kept R.atoms kind s t ≡ true →
    (c : HostCall) → c.sheet ≡ sheet → c.mark ≡ mark_text R (fresh_search kind s t) →
    mark_room ≤ length c.next → is_refused c ≡ false
unfolding kept_by keeping
fresh-accepted sheet R read kind s t kept =
    let first = mark_text R (fresh_search kind s t) in
    (host-demand3 sheet R read kind s t first (kept, inl refl) [] tt).stands.goes_on.call_accepted
