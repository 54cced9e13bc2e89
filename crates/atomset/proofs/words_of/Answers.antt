-- `atomset::words_of` meets its contract. The invariant: the words before place i are read from the rows.
use native.Mathlib.Omega.{arith}
use Rattle.atomset.proofs.Table.{read_all}
use Rattle.atomset.proofs.words_of.Goals as goal

pub returns : goal.returns
returns c = read_all c.loop-i.invariant (omega arith)
