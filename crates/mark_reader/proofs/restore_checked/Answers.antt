-- `mark_reader::restore_checked` meets its contract: each answer is the definition's by the rules that led to it.
use native.Mathlib.Omega.{arith}
use mathlib.Core.Path.{◌≡◌, ◌∙◌, sym}
use Rattle.molecule.proofs.Bonds.{rule9}
use Rattle.search.specs.Mark.{bonds_from, mark_bonds}
use Rattle.search.proofs.Lines.{ThreeLines, three-lines-facts}
use Rattle.mark_reader.specs.Bonds.{bonds_read}
use Rattle.mark_reader.proofs.Answers.{refuses-lines, refuses-bonds, lines-placeable, goes_on}
use Rattle.mark_reader.proofs.restore_checked.Lts as lts
use Rattle.mark_reader.proofs.restore_checked.Reads as reads
use Rattle.mark_reader.proofs.restore_checked.Tie as tie
use Rattle.mark_reader.proofs.restore_checked.Goals as goal

-- what is known at a place of the function
abbrev Place : (lts.Claims → lts.Pre-type → lts.Post-type → Type 0) → Type 0
Place place = place tie.the-claims reads.Pre reads.Post

-- ---- what is known there

lines : (c : Place lts.Else1) → ThreeLines 9 c.args.bytes.now
lines c = three-lines-facts 9 _ (sym c.if-not-three_lines_kept.ensures)

-- the bond lines are those past the three
read :
    (c : Place lts.After-read_bonds) →
    let bytes = c.args.bytes.now in
    c.read_bonds.result ≡ bonds_read c.args.m.atoms c.args.m.rows bytes (bonds_from bytes) (mark_bonds bytes)
read c = rw (c.small_at.ensures, c.small_at-2.ensures) at c.read_bonds.ensures

pub returns-then-not-three_lines_kept : goal.returns-then-not-three_lines_kept
returns-then-not-three_lines_kept c =
    refuses-lines _ _ c.requires (sym c.if-not-three_lines_kept.ensures)

pub small_at-requires : goal.small_at-requires
small_at-requires c = omega (arith, (lines (search)).size)

pub overflow_mul-from : goal.overflow_mul-from
overflow_mul-from c = omega (arith, (lines (search)).most)

pub overflow_add-from : goal.overflow_add-from
overflow_add-from c = omega (arith, (lines (search)).most)

pub small_at-requires-2 : goal.small_at-requires-2
small_at-requires-2 c = omega (arith, (lines (search)).size)

pub read_bonds-requires : goal.read_bonds-requires
read_bonds-requires c =
    record { few = (rule9 _ c.requires).atoms_high; room = omega (arith, (lines (search)).size) }

pub returns-in_default : goal.returns-in_default
returns-in_default c = refuses-bonds _ _ c.requires (lines (search)) (sym (read (search)) ∙ c.in_default.is)

pub own_search-requires : goal.own_search-requires
own_search-requires c = lines-placeable _ _ c.requires (lines (search))

pub returns : goal.returns
returns c =
    c.own_search.ensures ∙ goes_on _ _ c.requires (lines (search)) _ (sym (read (search)) ∙ c.in-Some.is)
