-- `trial::put_record` meets its contract: what is written stands first, and the rest is as it was.
-- By `record-put`.
use native.Mathlib.Omega.{arith}
use Rattle.trial.proofs.Bytes.{record-put}
use Rattle.trial.proofs.put_record.Goals as goal

pub returns : goal.returns
returns c = rw c.copy_from_slice.ensures.after (record-put c.args.beginning.now c.args.part.now c.args.c (omega arith))
