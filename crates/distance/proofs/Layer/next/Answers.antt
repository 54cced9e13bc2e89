-- `distance::Layer::next` meets its contract, by `next-layer`: from the atoms bonded to each word of `front`.
use Rattle.distance.proofs.Near.{next-layer}
use Rattle.distance.proofs.Layer.next.Goals as goal

pub returns-clause-front : goal.returns-clause-front
returns-clause-front c =
    next-layer _ _ _ _ c.near_word-low.ensures c.near_word-high.ensures c.union-near.ensures
    c.intersection-front.ensures
