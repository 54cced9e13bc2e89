-- `search_rules::ends_kept` meets its contract: the answer of rules 10 and 11 as a test.
-- By the laws of `Readings`.
use Prim.Native.Nat.{ℕ}
use mathlib.Core.Path.{◌≡◌, sym, ◌∙◌}
use Rattle.std.specs.Prelude.{Result, Ok, Err}
use Rattle.std.specs.Result.{is_ok}
use Rattle.refusal.specs.declared.Refusal.{Refusal}
use Rattle.molecule.specs.Ends.{ends_answer}
use Rattle.search.specs.Place.{ends_kept}
use Rattle.search.proofs.Readings.{ends-not-kept, ends-are-kept}
use Rattle.search_rules.proofs.ends_kept.Goals as goal

-- they are kept exactly where the answer is no refusal
told : (n s t : ℕ) (r : Result (Unit {0}) Refusal) → r ≡ ends_answer n s t → is_ok r ≡ ends_kept n s t
told n s t (Ok u) e = sym (ends-are-kept n s t (sym e))
told n s t (Err r) e = sym (ends-not-kept n s t (sym e))

pub returns : goal.returns
returns c = c.is_ok.ensures.value ∙ told c.args.n c.args.s c.args.t _ c.check_ends.ensures
