-- `sweep::near_word` meets its contract. The invariant: the set has the atoms bonded to those of the bits taken,
-- and the bits left are of the word. The measure is the word that is left.
use Rattle.atomset.specs.Set.{linked_by}
use Rattle.sweep.proofs.Words.{NeighboursPassed}
use Rattle.sweep.proofs.near_word.Given as goal

abbrev pub invariant-loop-left : goal.invariant-loop-left
invariant-loop-left l = NeighboursPassed (linked_by l.table) l.word l.k l.all l.left

abbrev pub decreases-loop-left : goal.decreases-loop-left
decreases-loop-left l = l.left
