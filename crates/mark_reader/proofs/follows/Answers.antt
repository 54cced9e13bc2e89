-- `mark_reader::follows` meets its contract, by the order of the first atoms and then of the second.
use native.Mathlib.Omega.{arith}
use mathlib.Core.Path.{◌∙◌}
use Rattle.std.proofs.lemmas.Bool.Decides.{nat_tests}
use Rattle.molecule.specs.BondList.{comes_before}
use Rattle.mark_reader.specs.Bonds.{followed}
use Rattle.mark_reader.proofs.BondReading.{dictionary}
use borrow.Author.Tests.{lt-ltb}
use Rattle.mark_reader.proofs.follows.Goals as goal

pub returns-then-bond : goal.returns-then-bond
unfolding followed comes_before
returns-then-bond c =
    let low = lt-ltb c.args.bond.0 c.args.bond.1 c.if-bond.true in
    rw low (c.lt.ensures ∙ dictionary _ _ _ _)

pub returns-else-bond : goal.returns-else-bond
unfolding followed comes_before
returns-else-bond c = grind (arith, nat_tests)
