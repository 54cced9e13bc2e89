-- Every two places of the list: what `all` tells of its places.
use Rattle.std.proofs.Common.{rules, tests, arith}
use mathlib.Core.Path.{◌∙◌, refl}
use lib.ListN.{length}
use Rattle.std.proofs.lemmas.Iterator.{YieldsList-from_range}
use Rattle.std.proofs.lemmas.Iterator.Search.{all_from_yields_List}
use Rattle.molecule.specs.Record.{bonded}
use Rattle.judge.specs.Parts.{fits_before}
use Rattle.judge.proofs.Tests.{range-tests, induces-is}
use Rattle.judge.proofs.fits.Goals as goal

pub returns : goal.returns
returns c =
    let args = c.args in
    let test = fits_before (bonded args.n args.rows.now) args.k args.xs.now in
    let places = length args.xs.now in
    all_from_yields_List test _ _ _ c.all.ensures.ran (YieldsList-from_range 0 places places refl (omega arith))
    (λ x b q k. search (rules, tests))
    ∙ range-tests test places ∙ induces-is _ _ _
