-- The laws of the entry that counts: its numbers, what a refusal leaves, what 0 means, and that kind 3 lists as many.
-- By its ways; a search that is done has listed them all.
use Rattle.std.specs.Prelude.{Err, Ok, Result}
use Prim.Native.Nat.{ℕ, ◌+◌, ◌*◌, ◌≤◌}
use native.Mathlib.Omega.{arith}
use mathlib.Core.Path.{◌≡◌, refl, sym, ap, ◌∙◌}
use mathlib.Core.Logic.{◌⊎◌, inl, inr}
use mathlib.Core.Bool.{true}
use mathlib.Core.List.{List}
use lib.ListN.{take}
use lib.Dec.{leb}
use Rattle.enumeration.specs.Run.{limit}
use Rattle.refusal.specs.declared.Refusal.{Refusal}
use Rattle.refusal.specs.Number.{number_of}
use Rattle.refusal.proofs.Ranges.{by-test}
use Rattle.molecule.specs.declared.Molecule.{Molecule}
use Rattle.molecule.specs.Record.{well_formed}
use Rattle.sheet.specs.Read.{read_sheet}
use Rattle.sheet.proofs.Accepted.{accepted-well-formed}
use Rattle.sheet.proofs.Numbers.{sheet-numbers}
use Rattle.search.specs.Place.{kind_kept, ends_kept}
use Rattle.search.proofs.Readings.{KindFacts, kind-facts, ends_of}
use Rattle.counter.specs.Count.{shortest_number, count_shortest}
use Rattle.counter.proofs.Laws.{count-exact}
use Rattle.count.proofs.Listed.{count-is-listed}
use Rattle.host.specs.Resume.{listed_in}
use Rattle.host.specs.Start.{start_mark}
use Rattle.host.specs.Count.{CountedSheet, refused_count, wrote_count, count_sheet}
use Rattle.host.specs.Calls.{HostCall, keeping, kept_by, HostHistory, all_calls_in, returned_done}
use Rattle.host.proofs.Gate.{by-ends}
use Rattle.host.proofs.History.{host-done}
use Rattle.host.proofs.StartLaws.{start-kind, start_first, start-demand3}

-- ---- the numbers of its refusals

-- rule 10, 11 or 26
abbrev EndsNumber : ℕ → Type 0
EndsNumber k = (k ≡ 10) ⊎ ((k ≡ 11) ⊎ (k ≡ 26))

abbrev pub CountNumber : ℕ → Type 0
CountNumber k = ((1 ≤ k) × (k ≤ 8)) ⊎ EndsNumber k

abbrev CountRule : Result ℕ Refusal → Type 0
CountRule (Ok k) = Unit {0}
CountRule (Err r) = EndsNumber (number_of r)

-- on a molecule that rule 9 allows, a count is refused by rules 10, 11 and 26
count-rules : (mol : Molecule) (s t : ℕ) → well_formed mol ≡ true → CountRule (count_shortest mol s t)
unfolding count_shortest
count-rules mol s t formed =
    rw formed
    (by-ends CountRule mol.atoms s t _ _ (inl refl) (inr (inl refl))
    (by-test CountRule (leb (shortest_number mol s t) limit) _ _ (inr (inr refl)) tt))

-- ---- the entry

module _ (sheet : List ℕ) (s t count : ℕ) where
  abbrev pub answer : CountedSheet
  answer = count_sheet sheet s t count

  -- It is turned back by a rule, and leaves its output as it was
  pub record Turned : Type 0 where
    pub rule : Refusal
    pub number_is : answer.number ≡ number_of rule
    pub ranged : CountNumber (number_of rule)
    pub count_kept : answer.count ≡ count

  -- It counts on the molecule that it reads, and the number is in its output
  pub record Told (mol : Molecule) : Type 0 where
    pub number_is : answer.number ≡ 0
    pub read : read_sheet sheet ≡ Ok mol
    pub counted : count_shortest mol s t ≡ Ok answer.count

  turned : (r : Refusal) → refused_count r count ≡ answer → CountNumber (number_of r) → Turned
  turned r e h = record {
    rule = r;
    number_is = sym (ap (λ (x : CountedSheet). x.number) e);
    ranged = h;
    count_kept = sym (ap (λ (x : CountedSheet). x.count) e);
  }

  unread : {r : Refusal} → read_sheet sheet ≡ Err r → refused_count r count ≡ answer
  unfolding count_sheet
  unread e = rw e

  module _ (mol : Molecule) (read : read_sheet sheet ≡ Ok mol) where
    written : {x : Result ℕ Refusal} → count_shortest mol s t ≡ x → wrote_count x count ≡ answer
    unfolding count_sheet
    written e = rw (read, e)

    told : {k : ℕ} → count_shortest mol s t ≡ Ok k → Told mol
    told {k} e = record {
      number_is = sym (ap (λ (x : CountedSheet). x.number) (written e));
      read = read;
      counted = e ∙ ap (λ (x : CountedSheet). Ok x.count) (written e);
    }

    read-way : (x : Result ℕ Refusal) → count_shortest mol s t ≡ x → Turned ⊎ ((mol : Molecule) × Told mol)
    read-way (Ok k) e = inr (mol, told e)
    read-way (Err r) e = inl (turned r (written e) (inr rule))
      where
        rule : EndsNumber (number_of r)
        rule = let h = count-rules mol s t (accepted-well-formed sheet mol read) in rw e at h

  either : Turned ⊎ ((mol : Molecule) × Told mol)
  either = go (read_sheet sheet) refl
    where
      go : (x : Result Molecule Refusal) → read_sheet sheet ≡ x → Turned ⊎ ((mol : Molecule) × Told mol)
      go (Ok mol) read = read-way mol read (count_shortest mol s t) refl
      go (Err r) e = inl (turned r (unread e) (inl (sheet-numbers sheet r e)))

  -- It returns 0, or for a refusal 1 to 8, 10, 11 or 26
  pub count-numbers : (answer.number ≡ 0) ⊎ CountNumber answer.number
  count-numbers = elim either [
    | inl turned ↦ inr (rw turned.number_is turned.ranged)
    | inr (mol, told) ↦ inl told.number_is
  ]

  -- no rule has the number 0
  not-zero : (k : ℕ) → CountNumber k → k ≡ 0 → ⊥
  not-zero k (inl h) z = omega arith
  not-zero k (inr (inl h)) z = omega arith
  not-zero k (inr (inr (inl h))) z = omega arith
  not-zero k (inr (inr (inr h))) z = omega arith

  -- A refusal, which has another number than 0, leaves the output
  pub count-refused-keeps : (answer.number ≡ 0 → ⊥) → answer.count ≡ count
  count-refused-keeps other = elim either [
    | inl turned ↦ turned.count_kept
    | inr (mol, told) ↦ absurd (other told.number_is)
  ]

  -- 0 means that the paths are counted
  pub count-told : answer.number ≡ 0 → (mol : Molecule) × Told mol
  count-told zero = elim either [
    | inl turned ↦ absurd (not-zero (number_of turned.rule) turned.ranged (sym turned.number_is ∙ zero))
    | inr told ↦ told
  ]

  module _ (mol : Molecule) (read : read_sheet sheet ≡ Ok mol) where
    -- and the output holds the number of shortest paths from s to t: the length of the list of kind 3
    pub count-answers : answer.number ≡ 0 → answer.count ≡ shortest_number mol s t
    count-answers zero =
        let (other, told) = count-told zero in
        let both = sym told.read ∙ read in
        let same : other ≡ mol = cc in
        count-exact mol s t (rw same at told.counted)

    -- ---- the number of paths listed

    -- rule 16 of kind 3 is rules 10 and 11
    ends-kept : kind_kept mol.atoms 3 s t ≡ true → ends_kept mol.atoms s t ≡ true
    ends-kept kept = go (kind-facts mol.atoms 3 s t kept)
      where
        go : KindFacts mol.atoms 3 s t → ends_kept mol.atoms s t ≡ true
        go (inl (zero, no-s, no-t)) = absurd (omega arith)
        go (inr (inl (path, ends))) = ends_of mol.atoms s t ends
        go (inr (inr (two, bound, no-t))) = absurd (omega arith)

    -- Over every start of kind 3 that returned 0, and every list of calls that begins with the mark that it wrote:
    -- after a call that returned 101, the entry returns 0 and writes the listed count of the mark that the host keeps
    pub count-as-listed :
        (next : List ℕ) → (start_mark sheet 3 s t next).number ≡ 0 →
        let first = take (91 + 9 * mol.bonds) (start_mark sheet 3 s t next).next_mark in
        (calls : List HostCall) → HostHistory sheet (keeping first) calls → returned_done calls ≡ true →
        (answer.number ≡ 0) × (answer.count ≡ listed_in (kept_by (keeping first) calls).mark)
    count-as-listed next zero calls h said =
        let first = start_first sheet 3 s t next mol read zero in
        let stands = (start-demand3 sheet 3 s t next mol read zero calls h).stands in
        let done = host-done sheet mol read 3 s t _ first calls h said in
        let kept = ends-kept (start-kind sheet 3 s t next mol read zero) in
        let formed = accepted-well-formed sheet mol read in
        let counted = count-is-listed mol s t formed kept (all_calls_in calls) stands.is_history done in
        let same = written mol read counted in (
          sym (ap (λ (x : CountedSheet). x.number) same),
          sym (ap (λ (x : CountedSheet). x.count) same) ∙ sym stands.listed_known,
        )
