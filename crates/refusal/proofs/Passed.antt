-- What an answer tells of the tests that it passed, and the answer of a `?` that hands a refusal on.
-- Where an answer is decided by tests, each of its cases is looked at.
use Rattle.std.specs.Prelude.{Err, Ok, Result, IsErrAnd}
use Prim.Native.Nat.{ℕ}
use native.Mathlib.Omega.{arith}
use mathlib.Core.Path.{◌≡◌, refl, ap, ◌∙◌}
use mathlib.Core.Bool.{Bool, true, false, cond}
use Rattle.std.proofs.lemmas.Result.{err_from_is_err_and}
use Rattle.refusal.specs.declared.Refusal.{Refusal}

module _ {A : Type 0} where
  -- no refusal is accepted
  pub not_taken : {r : Refusal} {y : A} → ◌≡◌ {A = Result A Refusal} (Err r) (Ok y) → ⊥
  not_taken e = let z : ◌≡◌ {A = ℕ} 0 1 = cc in omega arith

  -- an accepted answer passed its test
  pub passed :
      (t : Bool) (x : Result A Refusal) (r : Refusal) {y : A} → cond t x (Err r) ≡ Ok y → (t ≡ true) × (x ≡ Ok y)
  passed true x r e = (refl, e)
  passed false x r e = absurd (not_taken e)

  -- what `?` returns is the refusal that it was handed
  pub handed_on : {r : Refusal} (x : Result A Refusal) → IsErrAnd x (λ e. e ≡ r) → x ≡ Err r
  handed_on x h =
      let (e, is, same) = err_from_is_err_and x h in
      is ∙ ap Err same
