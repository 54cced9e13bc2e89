-- `mark_reader::read_bonds` meets its contract.
-- The invariant is `Reading`: the lines still to be read decide as all of them do.
use native.Mathlib.Omega.{arith}
use mathlib.Core.Path.{◌≡◌, sym, ◌∙◌}
use mathlib.Core.Bool.{◌&&◌}
use Rattle.std.proofs.lemmas.Bool.Decides.{nat_tests}
use Rattle.molecule.specs.Record.{bonded}
use Rattle.mark_reader.proofs.BondReading.{reading-none, reading-all, reading-bad, reading-early, reading-more}
use Rattle.mark_reader.proofs.read_bonds.Goals as goal

pub loop-i-init : goal.loop-i-init
loop-i-init c = reading-none _ _ _ _ _

pub returns-in_err-bond : goal.returns-in_err-bond
returns-in_err-bond c =
    c.from_residual.ensures
    ∙ reading-bad c.loop-i.invariant c.loop-i-test.true (sym c.bond_line.ensures ∙ c.in_err-bond.was)

pub returns-then-not-follows : goal.returns-then-not-follows
returns-then-not-follows c =
    reading-early c.loop-i.invariant c.loop-i-test.true (sym c.bond_line.ensures ∙ c.in_ok-bond.was)
    (sym c.follows.ensures ∙ c.if-not-follows.true)

pub loop-i-preserved : goal.loop-i-preserved
loop-i-preserved c =
    let (a, b) = c.in_ok-bond.bond in
    let own : c.if-own.own ≡ (c.loop-i.own && bonded c.args.n c.args.rows.now a b) = grind (arith, nat_tests) in
    reading-more c.loop-i.invariant c.loop-i-test.true (sym c.bond_line.ensures ∙ c.in_ok-bond.was)
    (sym c.follows.ensures ∙ c.if-not-follows.false) own

pub returns : goal.returns
returns c = reading-all c.loop-i.invariant (omega arith)
