-- A run on flat buffers.
-- The assembled record and the unpacked search are those of the definition.
use Rattle.flat.proofs.Searches.{rows-size, search-size, run-unsized, run-stored}
use Rattle.flat.proofs.flat_run.Goals as goal

pub returns-then-not-sizes_kept : goal.returns-then-not-sizes_kept
returns-then-not-sizes_kept c = run-unsized (rw c.if-not-sizes_kept.true at c.sizes_kept.ensures)

pub unpack-q-requires : goal.unpack-q-requires
unpack-q-requires c = search-size (rw c.if-not-sizes_kept.false at c.sizes_kept.ensures)

pub assemble-requires : goal.assemble-requires
assemble-requires c = rows-size (rw c.if-not-sizes_kept.false at c.sizes_kept.ensures)

pub store_ran-requires : goal.store_ran-requires
store_ran-requires c = search-size (rw c.if-not-sizes_kept.false at c.sizes_kept.ensures)

pub returns : goal.returns
returns c =
    run-stored (rw c.if-not-sizes_kept.false at c.sizes_kept.ensures) c.assemble.ensures c.unpack-q.ensures
    c.run.ensures c.store_ran.ensures
