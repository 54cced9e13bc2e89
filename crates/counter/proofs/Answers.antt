-- The answers of the count, by the tests that lead to each.
-- The definition goes by `cond`, so each answer follows by rewriting the tests.
use Prim.Native.Nat.{ℕ, suc, ◌≤◌, ◌<◌}
use native.Mathlib.Omega.{arith}
use mathlib.Core.Path.{◌≡◌, sym, ap, ◌∙◌}
use mathlib.Core.Bool.{true, false, cond}
use mathlib.Core.Logic.{inl, inr}
use lib.Dec.{leb}
use borrow.Author.Tests.{leb-false, le-leb, lt-leb}
use Rattle.std.specs.Prelude.{Err, Ok}
use Rattle.graph.proofs.Below.{either}
use Rattle.enumeration.specs.Run.{limit}
use Rattle.refusal.specs.declared.Refusal.{Refusal}
use Rattle.refusal.specs.declared.Refusal.TheVariants.{Record, TooManyPaths}
use Rattle.molecule.specs.declared.Molecule.{Molecule}
use Rattle.molecule.specs.Record.{well_formed}
use Rattle.molecule.specs.Ends.{ends_answer}
use Rattle.molecule.proofs.Ends.{ends-refused}
use Rattle.search.specs.Place.{ends_kept}
use Rattle.search.proofs.Readings.{ends-facts, ends-go}
use Rattle.distance.specs.Capped.{capped}
use Rattle.counter.specs.Count.{shortest_number, count_shortest}

-- what is told of x is x itself up to the limit of the counts, and above it more than the limit
module _ (x : ℕ) {r : ℕ} (told : r ≡ capped x) where
  capped-within : r ≤ limit → x ≡ r
  unfolding capped
  capped-within h = elim (either (leb x limit)) [
    | inl e ↦ sym (rw e at told)
    | inr e ↦ let above : r ≡ suc limit = rw e at told in absurd (omega arith)
  ]

  capped-above : limit < r → limit < x
  unfolding capped
  capped-above h = elim (either (leb x limit)) [
    | inl e ↦ let same : r ≡ x = rw e at told in omega arith
    | inr e ↦ leb-false x limit e
  ]

module _ (mol : Molecule) (s t : ℕ) where
  -- rule 9 comes first
  pub count-no-record : well_formed mol ≡ false → count_shortest mol s t ≡ Err Record
  unfolding count_shortest
  count-no-record wrong = rw wrong

  module _ (formed : well_formed mol ≡ true) where
    -- then rules 10 and 11
    pub count-refused :
        {r : Refusal} → ends_answer mol.atoms s t ≡ Err r → count_shortest mol s t ≡ Err r
    unfolding count_shortest
    count-refused e = rw formed (ends-refused mol.atoms s t Err _ e)

    -- and rule 26
    module _ (kept : ends_kept mol.atoms s t ≡ true) where
      count_by :
          count_shortest mol s t ≡
          cond (leb (shortest_number mol s t) limit) (Ok (shortest_number mol s t)) (Err TooManyPaths)
      unfolding count_shortest
      count_by =
          rw formed (ends-go (ends-facts mol.atoms s t kept) Err _)

      pub count-within : shortest_number mol s t ≤ limit → count_shortest mol s t ≡ Ok (shortest_number mol s t)
      count-within h = rw (count_by, le-leb (shortest_number mol s t) limit h)

      pub count-above : limit < shortest_number mol s t → count_shortest mol s t ≡ Err TooManyPaths
      count-above h = rw (count_by, lt-leb (shortest_number mol s t) limit h)

      -- by the number that the code found
      module _ {r : ℕ} (told : r ≡ capped (shortest_number mol s t)) where
        pub told-within : r ≤ limit → count_shortest mol s t ≡ Ok r
        told-within h =
            let same = capped-within (shortest_number mol s t) told h in
            count-within (omega arith) ∙ ap Ok same

        pub told-above : limit < r → count_shortest mol s t ≡ Err TooManyPaths
        told-above h = count-above (capped-above (shortest_number mol s t) told h)
