-- `distance::nearing` meets its contract. The invariant is `Rounds`: the layer of this round, and the rows kept so far.
-- The measure is the atoms of the layer and those unseen.
use Rattle.distance.proofs.Layers.{layers-start, layers-fewer}
use Rattle.distance.proofs.Rounds.{rounds-start, rounds-more, rounds-end}
use Rattle.distance.proofs.nearing.Goals as goal

pub loop-layer-init : goal.loop-layer-init
loop-layer-init c =
    let first = c.first-layer.ensures in
    rounds-start (layers-start c.requires.atom first.unseen first.front)

pub loop-layer-smaller : goal.loop-layer-smaller
loop-layer-smaller c =
    let (x, here) = c.is_empty.ensures.some c.loop-layer-test.true in
    let next = c.next-next.ensures in
    layers-fewer c.loop-layer.invariant.layers c.requires.both_ways next.front c.requires.few next.unseen here

pub loop-layer-preserved : goal.loop-layer-preserved
loop-layer-preserved c =
    let next = c.next-next.ensures in
    rounds-more c.requires.both_ways c.loop-layer.invariant next.front c.keep_rows.ensures next.unseen

pub returns : goal.returns
returns c = rounds-end c.loop-layer.invariant (c.is_empty.ensures.none c.loop-layer-test.false)
