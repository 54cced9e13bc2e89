-- `sweep::reached` meets its contract. The invariant of the rounds is `Frontier`, that of a round `Round`.
use Rattle.atomset.specs.Set.{has, linked_by}
use Rattle.sweep.proofs.Frontier.{Frontier}
use Rattle.sweep.proofs.Frontier.{Round}
use Rattle.sweep.proofs.Words.{from_word}
use Rattle.sweep.proofs.reached.Given as goal

abbrev pub invariant-loop-k : goal.invariant-loop-k
invariant-loop-k l =
    Round (linked_by l.table) (has l.initial.left) (has l.initial.unseen) (has l.taken) (has l.left) (has l.unseen)
    (from_word l.taken l.k) (has l.front)

abbrev pub invariant-sweep : goal.invariant-sweep
invariant-sweep l =
    Frontier (linked_by l.table) (has l.initial.unseen) (has l.initial.front) (has l.want) l.steps l.counter
    (has l.left) (has l.unseen) (has l.front)
