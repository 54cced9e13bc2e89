-- Two numbers of three columns each.
-- Each return by the number that is none.
use native.Mathlib.Omega.{arith}
use Rattle.molfile.proofs.Columns.{right-bad, small_left, small_right, pair_read}
use Rattle.molfile.proofs.pair_at.Goals as goal

pub returns-in_err-right : goal.returns-in_err-right
returns-in_err-right c =
    rw c.from_residual-in_err-right.ensures
    (right-bad c.args.s.now c.args.at c.requires c.in_ok-left.ensures c.in_err-right.ensures)

pub overflow_cast-result : goal.overflow_cast-result
overflow_cast-result c =
    let small = small_left c.args.s.now c.args.at c.requires c.in_ok-left.ensures in record { fits = omega arith }

pub overflow_cast-result-2 : goal.overflow_cast-result-2
overflow_cast-result-2 c =
    let small = small_right c.args.s.now c.args.at c.requires c.in_ok-left.ensures c.in_ok-right.ensures in
    record { fits = omega arith }

pub returns : goal.returns
returns c = pair_read c.args.s.now c.args.at c.requires c.in_ok-left.ensures c.in_ok-right.ensures
