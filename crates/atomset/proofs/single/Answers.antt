-- `atomset::single` meets its contract: one bit, in the first word for an atom up to 64, in the second otherwise.
-- By `has-single-first` and `has-single-second`.
use Rattle.atomset.proofs.Members.{shifted_one, has-single-first, has-single-second}
use Prim.Native.Nat.{◌-◌, ◌<◌, ◌≤◌}
use native.Mathlib.Omega.{arith}
use Rattle.atomset.proofs.single.Goals as goal

pub returns-then-v-le64 : goal.returns-then-v-le64
returns-then-v-le64 c =
    let v = c.args.v in
    let place : v - 1 < 64 = omega arith in
    rw (shifted_one (v - 1) place) (has-single-first v c.requires.0 c.if-v-le64.true)

pub returns : goal.returns
returns c =
    let v = c.args.v in
    let place : v - 65 < 64 = omega arith in
    let low : 65 ≤ v = omega arith in
    rw (shifted_one (v - 65) place) (has-single-second v low c.requires.1)
