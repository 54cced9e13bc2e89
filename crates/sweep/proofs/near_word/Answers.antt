-- `sweep::near_word` meets its contract. The invariant: the set has the atoms bonded to those of the bits taken,
-- and the bits left are of the word. The measure is the word that is left.
use Rattle.sweep.proofs.Words.{passed-more}
use Rattle.sweep.proofs.near_word.Goals as goal

pub loop-left-preserved : goal.loop-left-preserved
loop-left-preserved c =
    passed-more c.loop-left.invariant c.lowest_bit-j.ensures c.row-row.ensures c.union-more.ensures
