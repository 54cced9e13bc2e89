-- `sweep::reached` meets its contract. The invariant of the rounds is `Frontier`, that of a round `Round`.
use Prim.Native.Nat.{◌<◌}
use native.Mathlib.Omega.{arith}
use Rattle.atomset.specs.Set.{has, linked_by}
use Rattle.atomset.proofs.Members.{none_of}
use Rattle.sweep.proofs.Frontier.{frontier-start, frontier-used, frontier-end, frontier-decided}
use Rattle.sweep.proofs.Frontier.{Decides, decides-reached, decides-next}
use Rattle.sweep.proofs.Frontier.{round-start, round-step, round-skip, round-end}
use Rattle.sweep.proofs.Words.{from_first, from_in, from_last, from_next, from_zero, takes-word}
use Rattle.sweep.proofs.reached.Goals as goal
use Rattle.sweep.proofs.reached.Goals.{then-taken-k-ne0+else-is_empty, else-taken-k-ne0}
use Rattle.sweep.proofs.reached.Goals.{else-sweep-test, then-sweep-test+then-loop-k-test+then-taken-k-ne0+then-is_empty, then-sweep-test+else-loop-k-test+then-is_empty-2}

pub sweep-init : goal.sweep-init
sweep-init c = frontier-start

pub loop-k-init : goal.loop-k-init
loop-k-init c = round-start (from_first _) (from_in _ 0) c.empty-front.ensures

pub loop-k-preserved : goal.loop-k-preserved
loop-k-preserved c =
    let inside : c.loop-k.k < 2 = omega arith in
    elim c.if-taken-k-ne0.branch [
      | then-taken-k-ne0+else-is_empty w ↦
          rw (w.left-is, w.unseen-is, w.front-is)
          (round-step c.loop-k.invariant c.requires (takes-word _ inside w.near_word-near.ensures)
          w.minus-undecided.ensures w.intersection-fresh.ensures w.minus-not_fresh.ensures w.union-more.ensures)
      | else-taken-k-ne0 w ↦
          rw (w.left-is, w.unseen-is, w.front-is)
          (round-skip c.loop-k.invariant (from_zero _ inside w.if-taken-k-ne0.false) (from_next _ inside))
    ]

pub sweep-preserved : goal.sweep-preserved
sweep-preserved c =
    round-end c.loop-k.invariant (from_last _ (omega arith)) (λ none. omega arith) c.sweep.invariant

-- the sweep ends when no round is to do, when no atom is left, or when the next round is empty
pub returns : goal.returns
returns c =
    let given = c.args in
    let decided :
    Decides (linked_by given.table.now) (has given.free) (has given.targets) given.steps (has given.want)
    (has c.sweep-test.left) =
    elim c.sweep-test.branch [
      | else-sweep-test w ↦ rw w.left-is (frontier-used c.sweep.invariant (omega arith))
      | then-sweep-test+then-loop-k-test+then-taken-k-ne0+then-is_empty w ↦
          let inside : w.loop-k.k < 2 = omega arith in
          let taken = takes-word _ inside w.near_word-near.ensures in
          rw w.left-is
          (frontier-decided c.sweep.invariant
          (decides-next w.loop-k.invariant c.requires taken w.minus-undecided.ensures) (λ none. omega arith)
          (none_of w.is_empty.ensures w.if-is_empty.true))
      | then-sweep-test+else-loop-k-test+then-is_empty-2 w ↦
          let ended =
          round-end w.loop-k.invariant (from_last _ (omega arith)) (λ none. omega arith) c.sweep.invariant
          in
          rw w.left-is (frontier-end ended (none_of w.is_empty-in-sweep.ensures w.if-is_empty-2.true))
    ]
    in
    decides-reached decided c.minus.ensures
