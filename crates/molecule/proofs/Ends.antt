-- Rules 10 and 11, by the tests that decide them, and by the answer that `check_ends` gives: whatever an entry returns.
-- The definition goes by two tests; each answer follows by rewriting them.
use Rattle.std.specs.Prelude.{Err, Ok, Result, ⊤}
use Prim.Native.Nat.{ℕ}
use mathlib.Core.Path.{◌≡◌, refl, ap, ◌∙◌}
use mathlib.Core.Bool.{Bool, true, false, ◌&&◌, cond}
use lib.Dec.{eqb}
use borrow.Author.Tests.{eq-eqb, ne_eqb}
use Rattle.refusal.specs.declared.Refusal.{Refusal}
use Rattle.refusal.specs.declared.Refusal.TheVariants.{PathEnd, SameEnds}
use Rattle.refusal.specs.Answers.{unless_refused}
use Rattle.molecule.specs.Record.{is_atom}
use Rattle.molecule.specs.Ends.{with_ends, ends_answer}

module _ {A : Type 0} (n s t : ℕ) (refuse : Refusal → A) (goes : A) where
  -- ---- by the tests

  pub ends-no-start : is_atom n s ≡ false → with_ends n s t refuse goes ≡ refuse PathEnd
  unfolding with_ends
  ends-no-start e = rw e

  module _ (start : is_atom n s ≡ true) where
    pub ends-no-end : is_atom n t ≡ false → with_ends n s t refuse goes ≡ refuse PathEnd
    unfolding with_ends
    ends-no-end e = rw (start, e)

    module _ (end : is_atom n t ≡ true) where
      pub ends_same : s ≡ t → with_ends n s t refuse goes ≡ refuse SameEnds
      unfolding with_ends
      ends_same e = rw (start, end, eq-eqb s t e)

      pub ends-differ : (s ≡ t → ⊥) → with_ends n s t refuse goes ≡ goes
      unfolding with_ends
      ends-differ d = rw (start, end, ne_eqb s t d)

  -- ---- by the answer

  ends_by : with_ends n s t refuse goes ≡ unless_refused (ends_answer n s t) refuse (λ u. goes)
  unfolding with_ends
  ends_by = go (is_atom n s && is_atom n t) (eqb s t)
    where
      go :
          (atoms same : Bool) → cond atoms (cond same (refuse SameEnds) goes) (refuse PathEnd) ≡
          unless_refused {A = ⊤} (cond atoms (cond same (Err SameEnds) (Ok _)) (Err PathEnd)) refuse (λ u. goes)
      go true true = refl
      go true false = refl
      go false same = refl

  pub ends-refused : {r : Refusal} → ends_answer n s t ≡ Err r → with_ends n s t refuse goes ≡ refuse r
  ends-refused e = ends_by ∙ ap (λ (x : Result ⊤ Refusal). unless_refused x refuse (λ u. goes)) e

  pub ends-accepted : ends_answer n s t ≡ Ok _ → with_ends n s t refuse goes ≡ goes
  ends-accepted e = ends_by ∙ ap (λ (x : Result ⊤ Refusal). unless_refused x refuse (λ u. goes)) e
