-- The laws of carrying a mark from C: its numbers, what a refusal leaves, that the mark written restores the same
-- search, and that calls from it go on with the list. By the laws of `carry`; then by `host-from-mark` and demand 3.
use Rattle.std.specs.Prelude.{Err, Ok, Result}
use Prim.Native.Nat.{ℕ, ◌≤◌}
use native.Mathlib.Omega.{arith}
use mathlib.Core.Path.{◌≡◌, sym, ap, ◌∙◌}
use mathlib.Core.Logic.{◌⊎◌, inl, inr}
use mathlib.Core.Bool.{true}
use mathlib.Core.List.{List, ◌++◌}
use lib.ListN.{length, take, drop}
use Rattle.refusal.specs.declared.Refusal.{Refusal}
use Rattle.molecule.specs.declared.Molecule.{Molecule}
use Rattle.molecule.specs.Record.{well_formed}
use Rattle.sheet.specs.Read.{read_sheet}
use Rattle.sheet.proofs.Accepted.{accepted-well-formed}
use Rattle.search.specs.declared.Search.{Search}
use Rattle.search.specs.declared.Form.{Form}
use Rattle.search.specs.declared.Form.TheVariants.{Old, New}
use Rattle.search.specs.Place.{kind_kept}
use Rattle.search.specs.Mark.{mark_text}
use Rattle.search.specs.Forms.{mark_in, restore_in}
use Rattle.search.proofs.FormLaws.{form-restores, form-restorable, longest}
use Rattle.history.specs.Calls.{Call, Standing, start, standing, History}
use Rattle.history.specs.Demand.{Demand}
use Rattle.history.specs.Resumed.{restored_start}
use Rattle.history.proofs.Demand3.{demand3}
use Rattle.history.proofs.Continued.{continued-history, continued-search, continued-sheet}
use Rattle.carry.specs.Carry.{carry_answer}
use Rattle.carry.proofs.Laws as carry
use Rattle.carry.proofs.Laws.{CarryNumber}
use Rattle.host.specs.Calls.{HostCall, keeping, kept_by, HostHistory, all_calls_in, HostFromMark}
use Rattle.host.specs.Written.{WrittenOut, saved_number, saved_length}
use Rattle.host.specs.Carry.{carry_sheet, GoesOnWith}
use Rattle.host.proofs.Answers.{saved-ways}
use Rattle.host.proofs.History.{host-from-mark, host-mark-done}

module _ (from to : Form) (sheet mark out : List ℕ) (before : ℕ) where
  abbrev pub call : WrittenOut
  call = carry_sheet from to sheet mark out before

  refused-number : (r : Refusal) → carry_answer from to sheet mark out ≡ Err r → CarryNumber call.number
  refused-number r e = rw e (carry.carry-numbers from to sheet mark out r e)

  -- It returns 0, or for a refusal 1 to 8 or 13 to 17
  pub carry-returns : (call.number ≡ 0) ⊎ CarryNumber call.number
  carry-returns = elim (saved-ways (carry_answer from to sheet mark out)) [
    | inl (k, e) ↦ inl (ap saved_number e)
    | inr (r, e) ↦ inr (refused-number r e)
  ]

  not-zero : (k : ℕ) → CarryNumber k → k ≡ 0 → ⊥
  not-zero k (inl h) z = omega arith
  not-zero k (inr h) z = omega arith

  -- A refusal, which has another number than 0, leaves every byte and the length
  pub carry-refused-keeps : (call.number ≡ 0 → ⊥) → (call.bytes ≡ out) × (call.length ≡ before)
  carry-refused-keeps other = elim (saved-ways (carry_answer from to sheet mark out)) [
    | inl (k, e) ↦ absurd (other (ap saved_number e))
    | inr (r, e) ↦
        (carry.carry-refused from to sheet mark out r e, ap (λ (x : Result ℕ Refusal). saved_length x before) e)
  ]

  -- 0 means that as many bytes are written as the length says
  carry-written : call.number ≡ 0 → carry_answer from to sheet mark out ≡ Ok call.length
  carry-written zero = elim (saved-ways (carry_answer from to sheet mark out)) [
    | inl (k, e) ↦ e ∙ ap Ok (sym (ap (λ (x : Result ℕ Refusal). saved_length x before) e))
    | inr (r, e) ↦ absurd (not-zero call.number (refused-number r e) zero)
  ]

  -- and that the mark is carried: they are a mark of the search that the mark handed restores
  pub carry-zero : call.number ≡ 0 → carry.CarriedFacts from to sheet mark out call.length
  carry-zero zero = carry.carried-facts from to sheet mark out call.length (carry-written zero)

  -- A mark that is accepted is carried, where the output has 599 bytes for an old mark, or 9,815 for a new one
  pub carry-accepted :
      (mol : Molecule) → read_sheet sheet ≡ Ok mol → (q : Search) →
      restore_in from mol mark ≡ Ok q → longest to ≤ length out → call.number ≡ 0
  carry-accepted mol read q restored room =
      let fits = carry.carry-roomy from to sheet mark out mol read q restored room in
      ap saved_number (carry.carry-accepts from to sheet mark out mol read q restored fits).0

-- There and back: the first bytes, where the second output is long enough
pub carry-there-and-back :
    (from to : Form) (sheet mark out : List ℕ) (before : ℕ) → (carry_sheet from to sheet mark out before).number ≡ 0 →
    let there = carry_sheet from to sheet mark out before in
    (second : List ℕ) (other : ℕ) → length mark ≤ length second →
    let back = carry_sheet to from sheet (take there.length there.bytes) second other in
    (back.number ≡ 0) × (back.length ≡ length mark) × (back.bytes ≡ mark ++ drop (length mark) second)
carry-there-and-back from to sheet mark out before zero second other room =
    let written = carry-written from to sheet mark out before zero in
    let (answer, output) = (carry.there_and_back from to sheet mark out second _ written).0 room in
    (ap saved_number answer, ap (λ (x : Result ℕ Refusal). saved_length x other) answer, output)

-- ---- an old mark, carried over

module _ (sheet old out : List ℕ) (before : ℕ) (zero : (carry_sheet Old New sheet old out before).number ≡ 0)
    (mol : Molecule) (read : read_sheet sheet ≡ Ok mol) where
  over : carry.CarriedFacts Old New sheet old out (carry_sheet Old New sheet old out before).length
  over = carry-zero Old New sheet old out before zero

  -- the mark written
  abbrev pub carried_over : List ℕ
  carried_over =
      let call = carry_sheet Old New sheet old out before in
      take call.length call.bytes

  module _ (q : Search) (is : restore_in Old mol old ≡ Ok q) where
    -- it restores the search that the old mark restores
    pub over-restores : restore_in New mol carried_over ≡ Ok q
    over-restores =
        let reads = sym over.read ∙ read in
        let same : over.mol ≡ mol = cc in
        let restored = sym (rw same at over.restored) ∙ is in
        let found : over.search ≡ q = cc in
        rw (same, found) at over.restores

    -- Calls that begin with it list what follows the old mark's place
    pub over-from-mark :
        (calls : List HostCall) → HostHistory sheet (keeping carried_over) calls →
        HostFromMark sheet mol carried_over q calls
        (kept_by (keeping carried_over) calls) (standing (restored_start q) (all_calls_in calls))
    over-from-mark = host-from-mark sheet mol read carried_over q over-restores

  -- ---- with the past: the old mark is that of the search as it stood after calls that began with a fresh search

  module _ (kind s t : ℕ) (kept : kind_kept mol.atoms kind s t ≡ true) (past : List Call)
      (history : History mol (start kind s t) past)
      (was : old ≡ mark_in Old mol (standing (start kind s t) past).search) where
    formed : well_formed mol ≡ true
    formed = accepted-well-formed sheet mol read

    -- what stood
    abbrev stood : Standing
    stood = standing (start kind s t) past

    demanded : Demand mol kind s t past stood
    demanded = demand3 mol kind s t formed kept past history

    stood-restores : restore_in Old mol old ≡ Ok stood.search
    stood-restores =
        let accepted = demanded.goes_on.restore_accepted in
        let (_, passes, full) = form-restorable New mol (mark_text mol stood.search) stood.search accepted in
        ap (restore_in Old mol) was ∙ form-restores Old mol stood.search formed passes full

    -- No member of the list is lost, and none comes twice
    pub over-goes-on :
        (calls : List HostCall) → HostHistory sheet (keeping carried_over) calls →
        GoesOnWith mol kind s t past calls (kept_by (keeping carried_over) calls)
    over-goes-on calls h =
        let more = all_calls_in calls in
        let stands = (over-from-mark stood.search stood-restores calls h).stands in
        let one = continued-history mol (start kind s t) past more history stands.is_history in
        let d = demand3 mol kind s t formed kept (past ++ more) one in
        let same = continued-search mol (start kind s t) past more in
        let listed = ap (λ (q : Search). q.listed) same ∙ sym stands.listed_known in
        let records = ap (λ l. stood.sheet ++ l) (sym stands.records_kept) in
        let joined = continued-sheet mol (start kind s t) past more ∙ records in
        let restores = over-restores stood.search stood-restores in
        let done = host-mark-done sheet mol read carried_over stood.search restores calls h in
        record {
          demand = d;
          sheet_joined = joined;
          records_first = sym joined ∙ rw listed at d.sheet_first;
          done_whole = λ e. sym joined ∙ (d.done_whole (rw same (done e))).whole_sheet;
        }
