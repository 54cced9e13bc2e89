-- A search that is made is written where it was accepted.
-- What the call makes is what it is said to make.
use Rattle.flat.proofs.Searches.{rows-size, search-size, made-unsized, made-stored}
use Rattle.flat.proofs.store_from.Goals as goal

pub returns-then-not-sizes_kept : goal.returns-then-not-sizes_kept
returns-then-not-sizes_kept g c = λ made same. made-unsized (rw c.if-not-sizes_kept.true at c.sizes_kept.ensures)

pub assemble-requires : goal.assemble-requires
assemble-requires g c = rows-size (rw c.if-not-sizes_kept.false at c.sizes_kept.ensures)

pub store_made-requires : goal.store_made-requires
store_made-requires g c = search-size (rw c.if-not-sizes_kept.false at c.sizes_kept.ensures)

pub returns : goal.returns
returns g c = λ made same.
    made-stored (rw c.if-not-sizes_kept.false at c.sizes_kept.ensures)
    (same _ (rw c.assemble.ensures at c.make.ensures)) c.store_made.ensures
