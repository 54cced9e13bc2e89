-- A mark saved from flat buffers.
-- The assembled record and the unpacked search are those of the definition, and the number of a mark's bytes is small.
use native.Mathlib.Omega.{arith}
use mathlib.Core.Path.{sym, ap, ◌∙◌}
use Rattle.flat.specs.Searches.{saved_code}
use Rattle.flat.proofs.Searches.{rows-size, search-size, save-unsized, save-stored, mark-small}
use Rattle.flat.proofs.flat_save.Goals as goal

pub returns-then-not-sizes_kept : goal.returns-then-not-sizes_kept
returns-then-not-sizes_kept c = save-unsized (rw c.if-not-sizes_kept.true at c.sizes_kept.ensures)

pub unpack-q-requires : goal.unpack-q-requires
unpack-q-requires c = search-size (rw c.if-not-sizes_kept.false at c.sizes_kept.ensures)

pub assemble-requires : goal.assemble-requires
assemble-requires c = rows-size (rw c.if-not-sizes_kept.false at c.sizes_kept.ensures)

pub overflow_cast-result : goal.overflow_cast-result
overflow_cast-result c = omega (arith, mark-small _ _ _ _ (sym c.save.ensures.0 ∙ c.in-Ok.is))

pub returns-in-Ok : goal.returns-in-Ok
returns-in-Ok c =
    save-stored (rw c.if-not-sizes_kept.false at c.sizes_kept.ensures) c.assemble.ensures
    c.unpack-q.ensures c.save.ensures (ap saved_code (sym c.in-Ok.is))

pub returns-in-Err : goal.returns-in-Err
returns-in-Err c =
    save-stored (rw c.if-not-sizes_kept.false at c.sizes_kept.ensures) c.assemble.ensures
    c.unpack-q.ensures c.save.ensures (c.number.ensures ∙ ap saved_code (sym c.in-Err.is))
