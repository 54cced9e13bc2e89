-- One place against every place before it: what `all` tells of the numbers below j.
use Rattle.std.proofs.Common.{rules, tests, arith}
use Rattle.molecule.specs.Record.{bonded}
use Rattle.judge.specs.Parts.{fits_before, pair_fits}
use Rattle.judge.proofs.Tests.{range-tests}
use Rattle.judge.proofs.fits_before.Goals as goal
use mathlib.Core.Path.{◌∙◌, refl}
use Rattle.std.proofs.lemmas.Iterator.{YieldsList-from_range}
use Rattle.std.proofs.lemmas.Iterator.Search.{all_from_yields_List}

pub returns : goal.returns
unfolding fits_before
returns c =
    let args = c.args in
    let test = pair_fits (bonded args.n args.rows.now) args.k args.xs.now args.j in
    all_from_yields_List test _ _ _ c.all.ensures.ran (YieldsList-from_range 0 args.j args.j refl (omega arith))
    (λ x b q k. search (rules, tests))
    ∙ range-tests test args.j
