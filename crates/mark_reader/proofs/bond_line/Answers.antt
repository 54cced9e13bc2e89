-- `mark_reader::bond_line` meets its contract: two fields and an end are the line.
use native.Mathlib.Omega.{arith}
use Rattle.std.proofs.lemmas.Bool.Decides.{nat_tests}
use Rattle.mark_reader.specs.Bonds.{line_at}
use Rattle.mark_reader.proofs.BondReading.{two-kept}
use Rattle.mark_reader.proofs.bond_line.Goals as goal

pub returns-in_err-left : goal.returns-in_err-left
unfolding line_at
returns-in_err-left c = grind (arith, nat_tests, two-kept)

pub returns-in_err-right : goal.returns-in_err-right
unfolding line_at
returns-in_err-right c = grind (arith, nat_tests, two-kept)

pub returns-then-bytes-at-ne10 : goal.returns-then-bytes-at-ne10
unfolding line_at
returns-then-bytes-at-ne10 c = grind (arith, nat_tests, two-kept)

pub returns : goal.returns
unfolding line_at
returns c = grind (arith, nat_tests, two-kept)
