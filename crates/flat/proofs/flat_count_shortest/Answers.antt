-- The number of shortest paths on flat buffers.
-- The assembled record is the one of the definition; then by the answer of the count.
use mathlib.Core.Path.{refl}
use Rattle.flat.proofs.Counts.{count-wrong-length, count-answered}
use Rattle.flat.proofs.flat_count_shortest.Goals as goal

pub returns-then-rows-ne2048 : goal.returns-then-rows-ne2048
returns-then-rows-ne2048 c =
    let (value, left) = count-wrong-length _ _ _ _ _ _ c.if-rows-ne2048.true in
    record { value = value; count_after = left }

pub returns-in-Ok : goal.returns-in-Ok
returns-in-Ok c =
    let (value, left) =
    count-answered _ _ _ _ _ _ c.if-rows-ne2048.false c.assemble.ensures c.in-Ok.ensures (refl, refl) in
    record { value = value; count_after = left }

pub returns-in-Err : goal.returns-in-Err
returns-in-Err c =
    let (value, left) =
    count-answered _ _ _ _ _ _ c.if-rows-ne2048.false c.assemble.ensures c.in-Err.ensures (c.number.ensures, refl) in
    record { value = value; count_after = left }
