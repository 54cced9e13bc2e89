-- Whether none of 16 bytes is a line feed.
-- All of them were passed.
use native.Mathlib.Omega.{arith}
use mathlib.Core.Path.{◌≡◌}
use Rattle.molfile.proofs.block_clear.Goals as goal

pub returns : goal.returns
returns c = let last : c.loop-j.j ≡ 16 = omega arith in rw last at c.loop-j.invariant
