-- `mark_writer::copy_bonds` meets its contract: what is past the three lines is put at the place.
use Prim.Native.Nat.{◌+◌, ◌-◌, ◌*◌}
use native.Mathlib.Omega.{arith}
use lib.ListN.{length, drop, length-drop}
use lib.Seq.{length-take-le}
use Rattle.bond_writer.proofs.Splices.{splice-copied}
use Rattle.mark_writer.proofs.copy_bonds.Goals as goal

pub returns : goal.returns
returns c =
    let mark = c.args.mark.now in
    let start = 91 + 4 * c.value_at.result in
    let size = length-take-le (length mark - start) (drop start mark) (omega (arith, length-drop start mark)) in
    rw size
    (splice-copied _ mark _ _ (omega (arith, c.value_at.ensures)) c.requires.whole c.requires.room
    c.copy_from_slice.ensures.after)
