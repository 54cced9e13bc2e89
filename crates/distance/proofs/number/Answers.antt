-- `distance::number` meets its contract. The invariant is `Tally`: the layer of this round, and the numbers so far.
-- The measure is the atoms of the layer and those unseen.
use Rattle.distance.proofs.Layers.{layers-start, layers-fewer}
use Rattle.distance.proofs.Tally.{tally-start, tally-more, tally-end}
use Rattle.distance.proofs.number.Goals as goal

pub loop-layer-init : goal.loop-layer-init
loop-layer-init c =
    let measured = c.requires.measured in
    let first = c.first-layer.ensures in
    tally-start measured (layers-start measured.atom first.unseen first.front)

pub loop-layer-smaller : goal.loop-layer-smaller
loop-layer-smaller c =
    let measured = c.requires.measured in
    let (x, here) = c.is_empty.ensures.some c.loop-layer-test.true in
    let next = c.next-next.ensures in
    layers-fewer c.loop-layer.invariant.layers measured.both_ways next.front measured.few next.unseen here

pub loop-layer-preserved : goal.loop-layer-preserved
loop-layer-preserved c =
    let next = c.next-next.ensures in
    tally-more c.requires.measured c.loop-layer.invariant next.front c.keep_sums.ensures next.unseen

pub returns : goal.returns
returns c =
    tally-end c.loop-layer.invariant (c.is_empty.ensures.none c.loop-layer-test.false) c.requires.end
