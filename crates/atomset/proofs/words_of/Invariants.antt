-- `atomset::words_of` meets its contract. The invariant: the words before place i are read from the rows.
use Rattle.atomset.proofs.Table.{ReadTo}
use Rattle.atomset.proofs.words_of.Given as goal

abbrev pub invariant-loop-i : goal.invariant-loop-i
invariant-loop-i l = ReadTo l.rows l.table l.i
