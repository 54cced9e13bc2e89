-- The ways through what the entries that resume and start do first: a refusal of sheet, search or room, or none.
-- From the definition, at the tests that were made on the way.
use Rattle.std.specs.Prelude.{Err, Ok, Result}
use Prim.Native.Nat.{ℕ, ◌≤◌, ◌<◌}
use native.Mathlib.Decide.{dec_lt}
use native.Mathlib.Omega.{arith}
use mathlib.Core.Path.{◌≡◌, refl}
use mathlib.Core.Bool.{true, ◌&&◌}
use mathlib.Core.List.{List}
use mathlib.Core.Logic.{◌⊎◌, inl, inr}
use lib.ListN.{length}
use lib.Dec.{eqb}
use borrow.Author.Tests.{le-leb, lt-leb}
use Rattle.refusal.specs.declared.Refusal.{Refusal}
use Rattle.refusal.specs.declared.Refusal.TheVariants as refusal
use Rattle.refusal.specs.Number.{number_of}
use Rattle.refusal.proofs.Ranges.{by-test}
use Rattle.molecule.specs.declared.Molecule.{Molecule}
use Rattle.molecule.specs.Record.{is_atom, well_formed}
use Rattle.molecule.specs.Ends.{with_ends}
use Rattle.sheet.specs.Read.{read_sheet}
use Rattle.sheet.proofs.Accepted.{accepted-well-formed}
use Rattle.sheet.proofs.Numbers.{sheet-numbers}
use Rattle.search.specs.declared.Search.{Search}
use Rattle.host.specs.Gate.{mark_room, gated}

-- ---- the numbers of the refusals

-- what rules 10 and 11 decide between, where each holds
pub by-ends :
    {A : Type 0} (P : A → Type 0) (n s t : ℕ) (refuse : Refusal → A) (goes : A) →
    P (refuse refusal.PathEnd) → P (refuse refusal.SameEnds) → P goes → P (with_ends n s t refuse goes)
unfolding with_ends
by-ends P n s t refuse goes no-atom same passed =
    by-test P (is_atom n s && is_atom n t) _ _ no-atom (by-test P (eqb s t) _ _ passed same)

-- rules 1 to 8, rule 13, or a rule of making the search
abbrev pub GateNumber : (ℕ → Type 0) → ℕ → Type 0
GateNumber Rule k = ((1 ≤ k) × (k ≤ 8)) ⊎ ((k ≡ 13) ⊎ Rule k)

-- ---- the ways

module _
    {A : Type 0} (refuse : Refusal → A) (sheet : List ℕ) (make : Molecule → Result Search Refusal) (next : List ℕ)
    (goes : Molecule → Search → A) where
  abbrev result : A
  result = gated refuse sheet make next goes

  pub sheet-refused : {r : Refusal} → read_sheet sheet ≡ Err r → refuse r ≡ result
  unfolding gated
  sheet-refused e = rw e

  module _ {mol : Molecule} (read : read_sheet sheet ≡ Ok mol) where
    pub search-refused : {r : Refusal} → make mol ≡ Err r → refuse r ≡ result
    unfolding gated
    search-refused e = rw (read, e)

    module _ {q : Search} (made : make mol ≡ Ok q) where
      pub room-refused : length next < mark_room → refuse refusal.MarkRoom ≡ result
      unfolding gated
      room-refused short = rw (read, made, lt-leb mark_room (length next) short)

      pub goes_on : mark_room ≤ length next → goes mol q ≡ result
      unfolding gated
      goes_on room = rw (read, made, le-leb mark_room (length next) room)

  -- A call is turned back by a rule, or goes on
  pub ways :
      {Turned Went : Type 0} (Rule : ℕ → Type 0) →
      ((mol : Molecule) (r : Refusal) → well_formed mol ≡ true → make mol ≡ Err r → Rule (number_of r)) →
      ((r : Refusal) → refuse r ≡ result → GateNumber Rule (number_of r) → Turned) →
      ((mol : Molecule) (q : Search) → read_sheet sheet ≡ Ok mol → make mol ≡ Ok q → mark_room ≤ length next → Went) →
      Turned ⊎ Went
  ways {Turned} {Went} Rule numbers turned went = sheet-way (read_sheet sheet) refl
    where
      room-way :
          (mol : Molecule) (q : Search) → read_sheet sheet ≡ Ok mol → make mol ≡ Ok q →
          Dec (length next < mark_room) → Turned ⊎ Went
      room-way mol q read made (yes h) = inl (turned refusal.MarkRoom (room-refused read made h) (inr (inl refl)))
      room-way mol q read made (no h) = inr (went mol q read made (omega arith))

      search-way :
          (mol : Molecule) → read_sheet sheet ≡ Ok mol → (x : Result Search Refusal) → make mol ≡ x → Turned ⊎ Went
      search-way mol read (Ok q) made = room-way mol q read made (dec_lt (length next) mark_room)
      search-way mol read (Err r) e =
          let rule = numbers mol r (accepted-well-formed sheet mol read) e in
          inl (turned r (search-refused read e) (inr (inr rule)))

      sheet-way : (x : Result Molecule Refusal) → read_sheet sheet ≡ x → Turned ⊎ Went
      sheet-way (Ok mol) read = search-way mol read (make mol) refl
      sheet-way (Err r) e = inl (turned r (sheet-refused e) (inl (sheet-numbers sheet r e)))
