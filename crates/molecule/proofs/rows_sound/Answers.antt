-- Every byte of the rows.
-- `all` over their places is `all_below`.
use Rattle.std.proofs.Common.{◌∙◌, rules, tests, refl}
use Rattle.std.proofs.lemmas.Iterator.{YieldsList-from_range}
use Rattle.std.proofs.lemmas.Iterator.Search.{all_from_yields_List}
use Rattle.molecule.specs.Parts.{byte_sound, rows_sound}
use Rattle.molecule.proofs.Checks.{all-range}
use Rattle.molecule.proofs.rows_sound.Goals as goal

pub returns : goal.returns
unfolding rows_sound
returns c =
    let test = byte_sound c.args.rows.now c.args.n in
    all_from_yields_List test _ _ _ c.all.ensures.ran (YieldsList-from_range 0 2048 2048 refl refl)
    (λ x b q k. search (rules, tests))
    ∙ all-range test 2048
