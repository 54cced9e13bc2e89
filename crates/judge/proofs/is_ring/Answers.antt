-- Whether a list is a ring: the tests of `is_ring`, one after the other.
use mathlib.Core.Path.{◌≡◌, ◌∙◌}
use mathlib.Core.Bool.{◌&&◌}
use lib.Dec.{leb}
use lib.ListN.{length}
use borrow.Author.Tests.{le-leb, lt-leb}
use Rattle.graph.specs.Chordless.{in_range, induces, along_ring, is_ring}
use Rattle.molecule.specs.Record.{bonded}
use Rattle.judge.specs.Parts.{lowest_first, above_first}
use Rattle.judge.proofs.Tests.{both_tests, first_fails}
use Rattle.judge.proofs.is_ring.Lts as lts
use Rattle.judge.proofs.is_ring.Reads as reads
use Rattle.judge.proofs.is_ring.Tie as tie
use Rattle.judge.proofs.is_ring.Goals as goal
use Rattle.judge.proofs.is_ring.Goals.{then-xs-ge3, else-xs-ge3, then-in_range, else-in_range, then-fits, else-fits}

-- what is known at a place of the function
abbrev Place : (lts.Claims → lts.Pre-type → lts.Post-type → Type 0) → Type 0
Place place = place tie.the-claims reads.Pre reads.Post

atoms :
    (c : Place lts.Joined1) → let xs = c.args.xs.now in c.if-xs-ge3.value ≡ (leb 3 (length xs) && in_range c.args.n xs)
atoms c = elim c.if-xs-ge3.branch [
  | then-xs-ge3 w ↦ both_tests _ (le-leb 3 _ w.if-xs-ge3.true) (w.value-is ∙ w.in_range.ensures)
  | else-xs-ge3 w ↦ first_fails _ (lt-leb 3 _ w.if-xs-ge3.false) w.value-is
]

bonds :
    (c : Place lts.Joined2) →
    let xs = c.args.xs.now in
    c.if-in_range.value ≡ (c.if-xs-ge3.value && induces (bonded c.args.n c.args.rows.now) (along_ring (length xs)) xs)
bonds c = elim c.if-in_range.branch [
  | then-in_range w ↦ both_tests _ w.if-in_range.true (w.value-is ∙ w.fits.ensures)
  | else-in_range w ↦ first_fails _ w.if-in_range.false w.value-is
]

lowest : (c : Place lts.Joined3) → c.if-fits.value ≡ (c.if-in_range.value && lowest_first c.args.xs.now)
lowest c = elim c.if-fits.branch [
  | then-fits w ↦ both_tests _ w.if-fits.true (w.value-is ∙ w.lowest_first.ensures)
  | else-fits w ↦ first_fails _ w.if-fits.false w.value-is
]

pub returns-then-lowest_first : goal.returns-then-lowest_first
unfolding is_ring lowest_first above_first
returns-then-lowest_first c =
    rw (← atoms (search), ← bonds (search), ← lowest (search), c.if-lowest_first.true)

pub returns-else-lowest_first : goal.returns-else-lowest_first
unfolding is_ring lowest_first above_first
returns-else-lowest_first c =
    rw (← atoms (search), ← bonds (search), ← lowest (search), c.if-lowest_first.false)
