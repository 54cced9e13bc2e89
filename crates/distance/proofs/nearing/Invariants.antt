-- `distance::nearing` meets its contract. The invariant is `Rounds`: the layer of this round, and the rows kept so far.
-- The measure is the atoms of the layer and those unseen.
use mathlib.Core.Bool.{◌||◌}
use Rattle.atomset.specs.Set.{has, linked_by}
use Rattle.atomset.proofs.Size.{size}
use Rattle.distance.proofs.Rounds.{Rounds}
use Rattle.distance.proofs.nearing.Given as goal

abbrev pub invariant-loop-layer : goal.invariant-loop-layer
invariant-loop-layer l = Rounds l.n (linked_by l.table) l.t l.rows (has l.layer.front) (has l.layer.unseen)

abbrev pub decreases-loop-layer : goal.decreases-loop-layer
decreases-loop-layer l = size (λ a. has l.layer.unseen a || has l.layer.front a) 128
