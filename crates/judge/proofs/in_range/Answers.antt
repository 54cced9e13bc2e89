-- Whether every atom is from 1 to n: what `all` tells of the atoms, place by place.
use Rattle.std.proofs.Common.{rules, tests}
use Rattle.graph.specs.Chordless.{in_range}
use Rattle.judge.proofs.Tests.{list-tests}
use Rattle.molecule.specs.Record.{is_atom}
use Rattle.judge.proofs.in_range.Goals as goal
use mathlib.Core.Path.{◌∙◌}
use Rattle.std.proofs.lemmas.Iterator.{YieldsList-from_slice}
use Rattle.std.proofs.lemmas.Iterator.Search.{all_from_yields_List}

pub returns : goal.returns
unfolding in_range
returns c =
    all_from_yields_List (is_atom c.args.n) _ _ _ c.all.ensures.ran (YieldsList-from_slice c.args.xs.now cc)
    (λ x b q k. search (rules, tests))
    ∙ list-tests (is_atom c.args.n) c.args.xs.now
