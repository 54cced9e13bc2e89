-- Whether a list is a path from s to t: the tests of `is_path`, one after the other.
use mathlib.Core.Path.{◌≡◌, ap, ◌∙◌}
use mathlib.Core.Bool.{◌&&◌}
use lib.Dec.{leb, eqb}
use lib.ListN.{length}
use borrow.Author.Tests.{le-leb, lt-leb}
use Rattle.graph.specs.Chordless.{atom_at, last_atom, in_range, along_path, along_ring, is_path}
use Rattle.graph.proofs.Places.{induces-same, never-closes}
use Rattle.judge.proofs.Tests.{both_tests, first_fails}
use Rattle.judge.proofs.is_path.Lts as lts
use Rattle.judge.proofs.is_path.Reads as reads
use Rattle.judge.proofs.is_path.Tie as tie
use Rattle.judge.proofs.is_path.Goals as goal
use Rattle.judge.proofs.is_path.Goals.{then-xs-ge1, else-xs-ge1, then-in_range, else-in_range, then-from-s, else-from-s}

-- what is known at a place of the function
abbrev Place : (lts.Claims → lts.Pre-type → lts.Post-type → Type 0) → Type 0
Place place = place tie.the-claims reads.Pre reads.Post

atoms :
    (c : Place lts.Joined1) → let xs = c.args.xs.now in c.if-xs-ge1.value ≡ (leb 1 (length xs) && in_range c.args.n xs)
atoms c = elim c.if-xs-ge1.branch [
  | then-xs-ge1 w ↦ both_tests _ (le-leb 1 _ w.if-xs-ge1.true) (w.value-is ∙ w.in_range.ensures)
  | else-xs-ge1 w ↦ first_fails _ (lt-leb 1 _ w.if-xs-ge1.false) w.value-is
]

first :
    (c : Place lts.Joined2) → c.if-in_range.value ≡ (c.if-xs-ge1.value && eqb (atom_at c.args.xs.now 0) c.args.s)
first c = elim c.if-in_range.branch [
  | then-in_range w ↦ both_tests _ w.if-in_range.true (w.value-is ∙ ap (λ x. eqb x c.args.s) w.from.ensures)
  | else-in_range w ↦ first_fails _ w.if-in_range.false w.value-is
]

last : (c : Place lts.Joined3) → c.if-from-s.value ≡ (c.if-in_range.value && eqb (last_atom c.args.xs.now) c.args.t)
last c = elim c.if-from-s.branch [
  | then-from-s w ↦
      both_tests _ w.if-from-s.true (w.value-is ∙ ap (λ x. eqb x c.args.t) w.from-then-from-s.ensures)
  | else-from-s w ↦ first_fails _ w.if-from-s.false w.value-is
]

pub returns-then-from-t : goal.returns-then-from-t
unfolding is_path
returns-then-from-t c =
    rw (← atoms (search), ← first (search), ← last (search), c.if-from-t.true)
    (c.fits.ensures ∙ induces-same _ (along_ring 0) along_path c.args.xs.now never-closes)

pub returns-else-from-t : goal.returns-else-from-t
unfolding is_path
returns-else-from-t c =
    rw (← atoms (search), ← first (search), ← last (search), c.if-from-t.false)
