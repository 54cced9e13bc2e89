-- `all_below` as a loop computes it: a number that fails ends it with false, each turn adds one that passes,
-- and the last turn ends it with true. From the laws of `all_below`.
use Prim.Native.Nat.{ℕ, ◌+◌, ◌≤◌, ◌<◌}
use native.Mathlib.Numerals.{add-one}
use native.Mathlib.Omega.{arith}
use mathlib.Core.Path.{◌≡◌, refl, sym}
use mathlib.Core.Bool.{Bool, true, false}
use Rattle.graph.specs.Every.{all_below}
use Rattle.graph.proofs.Below.{and_both, clash, false_of, all_below-at}

pub all-fails : (k : ℕ) (test : ℕ → Bool) (i : ℕ) → i < k → test i ≡ false → all_below k test ≡ false
all-fails k test i h e = false_of (all_below k test) (λ t. clash (test i) (all_below-at k test t i h) e)

pub all_more : (i : ℕ) (test : ℕ → Bool) → all_below i test ≡ true → test i ≡ true → all_below (i + 1) test ≡ true
all_more i test a t = rw add-one (and_both (all_below i test) (test i) a t)

pub all_done : (i k : ℕ) (test : ℕ → Bool) → i ≤ k → k ≤ i → all_below i test ≡ true → all_below k test ≡ true
all_done i k test l u a = let same : i ≡ k = omega arith in rw same at a

-- ---- the loop as a record: the first i of n numbers pass

pub record Passing (test : ℕ → Bool) (n i : ℕ) : Type 0 where
  pub within : i ≤ n
  pub all : all_below i test ≡ true

pub passing-none : {test : ℕ → Bool} {n : ℕ} → Passing test n 0
passing-none = record { within = omega arith; all = refl }

module _ {test : ℕ → Bool} {n i : ℕ} (passing : Passing test n i) where
  pub passing-more : i < n → test i ≡ true → Passing test n (i + 1)
  passing-more more here = record { within = omega arith; all = all_more i test passing.all here }

  pub passing-not : i < n → test i ≡ false → false ≡ all_below n test
  passing-not more here = sym (all-fails n test i more here)

  pub passing-all : n ≤ i → true ≡ all_below n test
  passing-all end = sym (all_done i n test passing.within end passing.all)
