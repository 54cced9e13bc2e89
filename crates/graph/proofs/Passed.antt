-- A loop that tries every number below a bound: `all_below` by the numbers passed so far.
-- A test that fails ends the loop with false, and the last turn ends it with true.
use Prim.Native.Nat.{ℕ, ◌+◌, ◌≤◌, ◌<◌}
use native.Mathlib.Omega.{arith}
use mathlib.Core.Path.{◌≡◌, refl, sym, ◌∙◌}
use mathlib.Core.Bool.{Bool, true, false, not}
use borrow.Author.Tests.{not-true, not-false}
use Rattle.graph.specs.Every.{all_below}
use Rattle.graph.proofs.Loops.{all-fails, all_more, all_done}

-- the value of a test, by the branch on the negation of the answer
module _ {answer value : Bool} (told : answer ≡ value) where
  pub refuted : not answer ≡ true → value ≡ false
  refuted taken = sym told ∙ not-true answer taken

  pub confirmed : not answer ≡ false → value ≡ true
  confirmed left = sym told ∙ not-false answer left

-- every number below i passes, and i is at most the bound
pub record Passed (bound : ℕ) (test : ℕ → Bool) (i : ℕ) : Type 0 where
  pub inside : i ≤ bound
  pub all : all_below i test ≡ true

pub none_passed : {bound : ℕ} {test : ℕ → Bool} → Passed bound test 0
none_passed = record { inside = omega arith; all = refl }

module _ {bound : ℕ} {test : ℕ → Bool} {i : ℕ} (passed : Passed bound test i) where
  module _ (more : i < bound) where
    pub one-fails : test i ≡ false → false ≡ all_below bound test
    one-fails fails = sym (all-fails bound test i more fails)

    pub one_more : test i ≡ true → Passed bound test (i + 1)
    one_more passes = record { inside = omega arith; all = all_more i test passed.all passes }

    -- the same by the code's answer and the branch on its negation
    module _ {answer : Bool} (told : answer ≡ test i) where
      pub told-fails : not answer ≡ true → false ≡ all_below bound test
      told-fails taken = one-fails (refuted told taken)

      pub told_more : not answer ≡ false → Passed bound test (i + 1)
      told_more left = one_more (confirmed told left)

  pub all-passed : bound ≤ i → true ≡ all_below bound test
  all-passed end = sym (all_done i bound test passed.inside end passed.all)
