-- The numbers that an answer may be refused by: from a to b.
-- Where an answer is decided by tests, each of its cases is looked at.
use Rattle.std.specs.Prelude.{Err, Ok, Result}
use Prim.Native.Nat.{ℕ, ◌≤◌}
use mathlib.Core.Path.{◌≡◌}
use mathlib.Core.Bool.{Bool, true, false, cond}
use Rattle.refusal.specs.declared.Refusal.{Refusal}
use Rattle.refusal.specs.Number.{number_of}

-- a refusal with a number from a to b
abbrev pub Within : {A : Type 0} → ℕ → ℕ → Result A Refusal → Type 0
Within a b (Ok _) = Unit {0}
Within a b (Err r) = (a ≤ number_of r) × (number_of r ≤ b)

-- what a test decides between, where both hold
pub by-test : {A : Type 0} (P : A → Type 0) (t : Bool) (x y : A) → P y → P x → P (cond t x y)
by-test P true x y failed passed = passed
by-test P false x y failed passed = failed

pub within-refused :
    {A : Type 0} (a b : ℕ) (x : Result A Refusal) (r : Refusal) → x ≡ Err r → Within a b x →
    (a ≤ number_of r) × (number_of r ≤ b)
within-refused a b x r e h = rw e at h
