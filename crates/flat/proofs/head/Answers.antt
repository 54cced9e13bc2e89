-- Atoms and bonds as four bytes.
-- Four stores at the start of a list.
use native.Mathlib.Omega.{arith}
use lib.ListN.{length-set}
use Rattle.flat.specs.Codes.{head_bytes}
use Rattle.flat.proofs.Buffers.{four-set}
use Rattle.flat.proofs.head.Goals as goal

pub bounds-out-1 : goal.bounds-out-1
bounds-out-1 c = simp length-set (omega arith)

pub bounds-out-2 : goal.bounds-out-2
bounds-out-2 c = simp length-set (omega arith)

pub returns : goal.returns
unfolding head_bytes
returns c = four-set c.args.out.now _ _ _ _ c.requires
