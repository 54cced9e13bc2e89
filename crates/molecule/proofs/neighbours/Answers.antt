-- The neighbours of an atom: the ones of its row.
-- The row is the part of the rows that is handed on.
use Rattle.std.proofs.Common.{◌*◌}
use native.Mathlib.Nat.{add-sub_cancel_left}
use Rattle.molecule.specs.Record.{neighbours}
use Rattle.molecule.proofs.neighbours.Goals as goal

pub returns : goal.returns
unfolding neighbours
returns c = rw (add-sub_cancel_left (16 * c.args.i) 16) at c.ones_of.ensures.ones_are
