-- What a read gives stands after what is done.
use Rattle.std.proofs.Common.{rules}
use Rattle.listing.proofs.Bytes.{read-more}
use Rattle.listing.proofs.read_full.Goals as goal

pub loop-done-preserved : goal.loop-done-preserved
loop-done-preserved g c =
    let inv = c.loop-done.invariant in
    record {
      size = search rules;
      within = search rules;
      consumed =
          read-more _ _ _ c.loop-done.input c.read.new.buf c.loop-done.done _ c.in-Ok.n inv.within
          c.in-Ok.ensures.bound.0 inv.consumed c.in-Ok.ensures.bytes.0;
    }
