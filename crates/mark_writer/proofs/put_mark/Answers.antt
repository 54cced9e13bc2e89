-- `mark_writer::put_mark` meets its contract: the bond lines, made or copied, are put where the three lines end.
use Prim.Native.Nat.{◌≤◌}
use native.Mathlib.Omega.{arith}
use lib.ListN.{length}
use Rattle.std.proofs.lemmas.Bool.Decides.{nat_tests}
use Rattle.mark_writer.proofs.MarkSplices.{fits-bonds, fits-copy, mark-put, mark-copied}
use Rattle.mark_writer.proofs.put_mark.Lts as lts
use Rattle.mark_writer.proofs.put_mark.Reads as reads
use Rattle.mark_writer.proofs.put_mark.Tie as tie
use Rattle.mark_writer.proofs.put_mark.Goals as goal

-- what is known at a place of the function
abbrev Place : (lts.Claims → lts.Pre-type → lts.Post-type → Type 0) → Type 0
Place place = place tie.the-claims reads.Pre reads.Post

-- the mark handed has bytes
some : (c : Place lts.Else1) → 1 ≤ length c.args.mark.now
some c = grind (arith, nat_tests)

pub put_three_lines-requires : goal.put_three_lines-requires
put_three_lines-requires c = c.requires.0.lines

pub copy_bonds-requires : goal.copy_bonds-requires
copy_bonds-requires c =
    fits-copy c.requires.0 _ c.put_three_lines.auto.out c.requires.1 (some (search))

pub returns-else-is_empty : goal.returns-else-is_empty
returns-else-is_empty c =
    mark-copied c.requires.0 c.requires.1 (some (search)) c.put_three_lines.ensures c.copy_bonds.ensures

pub put_bonds-requires : goal.put_bonds-requires
put_bonds-requires c =
    fits-bonds c.requires.0 _ c.put_three_lines.auto.out

pub returns-then-is_empty : goal.returns-then-is_empty
returns-then-is_empty c =
    mark-put c.requires.0 c.put_three_lines.ensures c.put_bonds.ensures
