-- `mark_reader::fields_kept` meets its contract.
-- The invariant: the first i fields are such as a mark accepts.
use mathlib.Core.Path.{◌≡◌}
use mathlib.Core.Bool.{true}
use Rattle.search.specs.Mark.{fields_kept}
use Rattle.mark_reader.proofs.fields_kept.Given as goal

abbrev pub invariant-loop-i : goal.invariant-loop-i
invariant-loop-i l = fields_kept l.columns l.bytes l.at l.i ≡ true
