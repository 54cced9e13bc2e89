-- The laws of `ringlist_start`: its numbers, that a refusal leaves its output as it was, that else the fresh mark is
-- written, and demand 3 from there on. By its ways; the mark is a first mark of `host-demand3`.
use Rattle.std.specs.Prelude.{Err, Ok, Result}
use Prim.Native.Nat.{ℕ, ◌+◌, ◌*◌, ◌≤◌}
use native.Mathlib.Omega.{arith}
use mathlib.Core.Path.{◌≡◌, refl, sym, ap, ◌∙◌}
use mathlib.Core.Logic.{◌⊎◌, inl, inr}
use mathlib.Core.Bool.{true, ◌&&◌}
use mathlib.Core.List.{List, ◌++◌}
use lib.ListN.{length, take, drop}
use lib.Seq.{take-append_seam}
use lib.Dec.{eqb}
use Rattle.enumeration.specs.Machine.{fresh}
use Rattle.refusal.specs.declared.Refusal.{Refusal}
use Rattle.refusal.specs.Number.{number_of}
use Rattle.refusal.proofs.Ranges.{by-test}
use Rattle.molecule.specs.declared.Molecule.{Molecule}
use Rattle.molecule.specs.Record.{well_formed}
use Rattle.sheet.specs.Read.{read_sheet}
use Rattle.sheet.proofs.Accepted.{accepted-well-formed}
use Rattle.search.specs.Place.{lists_paths, beginning, search_at, fresh_search, bound_kept, kind_kept}
use Rattle.search.specs.Entries.{fresh_paths, fresh_rings_up_to, fresh_of_kind, start_search}
use Rattle.search.specs.Mark.{mark_text}
use Rattle.search.proofs.MarkLaws.{mark-length, fresh-restorable}
use Rattle.search.proofs.Starts.{record-taken}
use Rattle.search.proofs.Accepts.{started-fresh, started-kept, kept-starts}
use Rattle.history.specs.Calls.{start, standing}
use Rattle.host.specs.Gate.{mark_room}
use Rattle.host.specs.Resume.{mark_size}
use Rattle.host.specs.Start.{Started, refused_start, start_mark}
use Rattle.host.specs.Calls.{HostCall, keeping, kept_by, HostHistory, all_calls_in, FirstMark, HostDemand}
use Rattle.host.proofs.Gate.{by-ends, goes_on, ways}
use Rattle.host.proofs.Sizes.{mark-size}
use Rattle.host.proofs.Fresh.{fresh-full}
use Rattle.host.proofs.History.{host-demand3}
use Rattle.search.specs.declared.Search.{Search}

-- ---- the numbers of its refusals

-- rule 16, 10 or 11 of paths and shortest paths, or 21 of rings up to a size
abbrev KindNumber : ℕ → Type 0
KindNumber k = (k ≡ 16) ⊎ ((k ≡ 10) ⊎ ((k ≡ 11) ⊎ (k ≡ 21)))

abbrev pub StartNumber : ℕ → Type 0
StartNumber k = ((1 ≤ k) × (k ≤ 8)) ⊎ ((k ≡ 13) ⊎ KindNumber k)

abbrev OfKind : Result Search Refusal → Type 0
OfKind (Ok q) = Unit {0}
OfKind (Err r) = KindNumber (number_of r)

kind-rules : (n kind s t : ℕ) → OfKind (fresh_of_kind n kind s t)
unfolding fresh_of_kind fresh_paths fresh_rings_up_to
kind-rules n kind s t =
    by-test OfKind (eqb kind 0 && eqb s 0 && eqb t 0) _ _
    (by-test OfKind (lists_paths kind) _ _
    (by-test OfKind (eqb kind 2 && eqb t 0) _ _ (inl refl)
    (by-test OfKind (bound_kept s) _ _ (inr (inr (inr refl))) tt))
    (by-ends OfKind n s t _ _ (inr (inl refl)) (inr (inr (inl refl))) tt))
    tt

-- on a molecule that rule 9 allows, a start is refused by rules 16, 10, 11 and 21
kind-numbers :
    (kind s t : ℕ) (mol : Molecule) (r : Refusal) → well_formed mol ≡ true →
    start_search mol kind s t ≡ Err r → KindNumber (number_of r)
kind-numbers kind s t mol r formed e =
    go (fresh_of_kind mol.atoms kind s t) (sym (record-taken mol kind s t formed) ∙ e) (kind-rules mol.atoms kind s t)
  where
    go : (x : Result Search Refusal) → x ≡ Err r → OfKind x → KindNumber (number_of r)
    go x is h = rw is at h

-- ---- the fresh mark

-- it has 91 bytes and 9 for each bond
fresh-size :
    (mol : Molecule) (kind s t : ℕ) → well_formed mol ≡ true →
    length (mark_text mol (fresh_search kind s t)) ≡ 91 + 9 * mol.bonds
fresh-size mol kind s t formed =
    let none : length (beginning (fresh_search kind s t)) ≡ 0 = unfold fresh_search search_at fresh beginning in refl in
    mark-length mol (fresh_search kind s t) formed ∙ ap (λ (k : ℕ). 91 + 4 * k + 9 * mol.bonds) none

-- ---- the entry

module _ (sheet : List ℕ) (kind s t : ℕ) (next : List ℕ) where
  abbrev pub answer : Started
  answer = start_mark sheet kind s t next

  -- It is turned back by a rule, and leaves its output as it was
  pub record Turned : Type 0 where
    pub rule : Refusal
    pub number_is : answer.number ≡ number_of rule
    pub ranged : StartNumber (number_of rule)
    pub mark_kept : answer.next_mark ≡ next

  -- It starts the search on the molecule that it reads: the fresh mark is written, and the bytes past it keep their
  -- values
  pub record Began (mol : Molecule) : Type 0 where
    pub number_is : answer.number ≡ 0
    pub read : read_sheet sheet ≡ Ok mol
    pub accepted : start_search mol kind s t ≡ Ok (fresh_search kind s t)
    pub room : mark_room ≤ length next
    pub mark_is : answer.next_mark ≡ mark_text mol (fresh_search kind s t) ++ drop (91 + 9 * mol.bonds) next

  turned : (r : Refusal) → refused_start r next ≡ answer → StartNumber (number_of r) → Turned
  turned r e h = record {
    rule = r;
    number_is = sym (ap (λ (x : Started). x.number) e);
    ranged = h;
    mark_kept = sym (ap (λ (x : Started). x.next_mark) e);
  }

  began :
      (mol : Molecule) (q : Search) → read_sheet sheet ≡ Ok mol → start_search mol kind s t ≡ Ok q →
      mark_room ≤ length next → Began mol
  began mol q read made room =
      let fresh = started-fresh mol kind s t made in
      let written = goes_on _ _ _ _ _ read fresh room in
      let mark = mark_text mol (fresh_search kind s t) in
      record {
        number_is = sym (ap (λ (x : Started). x.number) written);
        read = read;
        accepted = fresh;
        room = room;
        mark_is =
            sym (ap (λ (x : Started). x.next_mark) written)
            ∙ ap (λ (k : ℕ). mark ++ drop k next) (fresh-size mol kind s t (accepted-well-formed sheet mol read));
      }

  either : Turned ⊎ ((mol : Molecule) × Began mol)
  either =
      ways _ _ _ _ _ KindNumber (kind-numbers kind s t) turned
      (λ mol q read made room. (mol, began mol q read made room))

  -- It returns 0, or for a refusal 1 to 8, 16, 10, 11, 21 or 13
  pub start-numbers : (answer.number ≡ 0) ⊎ StartNumber answer.number
  start-numbers = elim either [
    | inl turned ↦ inr (rw turned.number_is turned.ranged)
    | inr (mol, began) ↦ inl began.number_is
  ]

  -- no rule has the number 0
  not-zero : (k : ℕ) → StartNumber k → k ≡ 0 → ⊥
  not-zero k (inl h) z = omega arith
  not-zero k (inr (inl h)) z = omega arith
  not-zero k (inr (inr (inl h))) z = omega arith
  not-zero k (inr (inr (inr (inl h)))) z = omega arith
  not-zero k (inr (inr (inr (inr (inl h))))) z = omega arith
  not-zero k (inr (inr (inr (inr (inr h))))) z = omega arith

  -- A refusal, which has another number than 0, leaves every byte
  pub start-refused-keeps : (answer.number ≡ 0 → ⊥) → answer.next_mark ≡ next
  start-refused-keeps other = elim either [
    | inl turned ↦ turned.mark_kept
    | inr (mol, began) ↦ absurd (other began.number_is)
  ]

  -- 0 means that the search is started
  pub start-began : answer.number ≡ 0 → (mol : Molecule) × Began mol
  start-began zero = elim either [
    | inl turned ↦ absurd (not-zero (number_of turned.rule) turned.ranged (sym turned.number_is ∙ zero))
    | inr began ↦ began
  ]

  -- ---- on a sheet that is accepted

  module _ (mol : Molecule) (read : read_sheet sheet ≡ Ok mol) where
    formed : well_formed mol ≡ true
    formed = accepted-well-formed sheet mol read

    abbrev pub mark : List ℕ
    mark = mark_text mol (fresh_search kind s t)

    -- the bytes of the fresh mark
    abbrev pub size : ℕ
    size = 91 + 9 * mol.bonds

    -- Every search that rule 16 allows on the sheet's record is started, where the output has 9,815 bytes
    pub start-accepts : kind_kept mol.atoms kind s t ≡ true → mark_room ≤ length next → Began mol
    start-accepts kept room = began mol _ read (kept-starts mol kind s t formed kept) room

    -- ---- demand 3

    module _ (zero : answer.number ≡ 0) where
      -- the search is started on its record
      pub start-on : Began mol
      start-on =
          let (other, began) = start-began zero in
          let both = sym began.read ∙ read in
          let same : other ≡ mol = cc in
          rw same at began

      -- rule 16 allows its kind, s and t
      pub start-kind : kind_kept mol.atoms kind s t ≡ true
      start-kind = started-kept mol kind s t start-on.accepted

      -- the first bytes of the output are the fresh mark
      pub start-mark : take size answer.next_mark ≡ mark
      start-mark =
          ap (take size) start-on.mark_is
          ∙ ap (λ (k : ℕ). take k (mark ++ drop size next)) (sym (fresh-size mol kind s t formed))
          ∙ take-append_seam mark (drop size next)

      -- and ringlist_mark_length says so
      pub start-size : mark_size answer.next_mark ≡ size
      start-size =
          ap mark_size start-on.mark_is
          ∙ mark-size mol (fresh_search kind s t) formed (fresh-restorable mol kind s t formed start-kind)
          (fresh-full kind s t) (drop size next)
          ∙ fresh-size mol kind s t formed

      -- the mark that it wrote is a first mark
      pub start_first : FirstMark mol kind s t (take size answer.next_mark)
      start_first = (start-kind, inl start-mark)

      -- Demand 3 over every sheet, kind, s, t and buffer of a start that returned 0, and every list of calls that
      -- begins with the mark that it wrote
      pub start-demand3 :
          let first = take size answer.next_mark in
          (calls : List HostCall) → HostHistory sheet (keeping first) calls →
          HostDemand sheet mol kind s t first calls
          (kept_by (keeping first) calls) (standing (start kind s t) (all_calls_in calls))
      start-demand3 = host-demand3 sheet mol read kind s t (take size answer.next_mark) start_first
