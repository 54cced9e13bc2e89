-- Whether the first atom is the lowest: what `all` tells of the atoms after it.
use Rattle.std.proofs.Common.{rules, tests, arith}
use lib.Dec.{ltb}
use lib.ListN.{length, drop}
use Prim.Native.Nat.{◌-◌}
use Rattle.std.proofs.lemmas.List.{take_all, length-drop}
use Rattle.graph.specs.Chordless.{atom_at}
use Rattle.judge.proofs.Tests.{above-tests}
use Rattle.judge.proofs.lowest_first.Goals as goal
use mathlib.Core.Path.{◌∙◌}
use Rattle.std.proofs.lemmas.Iterator.{YieldsList-from_slice}
use Rattle.std.proofs.lemmas.Iterator.Search.{all_from_yields_List}

pub returns : goal.returns
returns c =
    let xs = c.args.xs.now in
    let whole = take_all (length xs - 1) (drop 1 xs) (omega (arith, length-drop 1 xs)) in
    all_from_yields_List (λ a. ltb (atom_at xs 0) a) _ _ _ c.all.ensures.ran
    (YieldsList-from_slice (drop 1 xs) (c.iter.ensures.rest ∙ whole))
    (λ x b q k. search (rules, tests))
    ∙ above-tests xs c.requires
