-- `atomset::up_to` meets its contract: the low bits of the first word, or all of them and the low bits of the second.
-- By `has-up-to-first` and `has-up-to-second`.
use Rattle.atomset.proofs.Members.{has-up-to-first, has-up-to-second}
use Prim.Native.Nat.{◌≤◌}
use native.Mathlib.Omega.{arith}
use Rattle.atomset.proofs.up_to.Goals as goal

pub returns-then-n-le64 : goal.returns-then-n-le64
returns-then-n-le64 c = rw c.low_bits.ensures (has-up-to-first c.args.n c.if-n-le64.true)

pub returns : goal.returns
returns c =
    let n = c.args.n in
    let low : 64 ≤ n = omega arith in
    rw (c.low_bits-2.ensures, c.low_bits-3.ensures) (has-up-to-second n low c.requires)
