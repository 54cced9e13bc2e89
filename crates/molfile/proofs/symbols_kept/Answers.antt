-- Rule 19.
-- `all` over the atoms is `all_below`.
use Rattle.std.proofs.Common.{◌∙◌, rules, tests, refl, arith, leb, ℕ, Bool}
use Rattle.std.proofs.lemmas.Iterator.{YieldsList-from_range}
use Rattle.std.proofs.lemmas.Iterator.Search.{all_from_yields_List}
use Rattle.molecule.proofs.Checks.{all-range}
use Rattle.molfile.specs.Molfile.{symbols_kept}
use Rattle.molfile.specs.Parts.{held_limit}
use Rattle.molfile.proofs.symbols_kept.Goals as goal

pub returns : goal.returns
unfolding symbols_kept
returns c =
    let test : ℕ → Bool = λ i. leb 1 (held_limit c.args.limits.now i) in
    all_from_yields_List test _ _ _ c.all.ensures.ran (YieldsList-from_range 0 c.args.n c.args.n refl (omega arith))
    (λ x b q k. search (rules, tests))
    ∙ all-range test c.args.n
