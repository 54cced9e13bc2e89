-- `search_rules::place_kept` meets its contract: the test of c, and openness over the word table, which is openness
-- over the molecule.
use native.Mathlib.Omega.{arith}
use lib.Seq.{length-take-le}
use mathlib.Core.Path.{sym, ◌∙◌}
use mathlib.Core.Bool.{and-true, and-false}
use Rattle.molecule.proofs.Bonds.{rule9}
use Rattle.enumeration.specs.Words.{is_open}
use Rattle.search.specs.Place.{family, beginning}
use Rattle.openness.proofs.Molecules.{table-words}
use Rattle.search_rules.proofs.Places.{open_told, place-is}
use Rattle.search_rules.proofs.place_kept.Goals as goal

pub next_kept-requires : goal.next_kept-requires
next_kept-requires c = (rule9 c.args.m c.requires.0).atoms_high

pub is_open-requires : goal.is_open-requires
is_open-requires c =
    let (formed, kinds, short, full) = c.requires in
    let size = length-take-le c.args.q.len c.args.q.prefix (omega (arith, full, short)) in
    (table-words c.args.m formed _ c.words_of-table.ensures, kinds, rw size short)

pub returns-then-next_kept : goal.returns-then-next_kept
returns-then-next_kept c =
    let (formed, kinds, short, full) = c.requires in
    let q = c.args.q in
    let opened = is_open (family c.args.m q) (beginning q) in
    rw (place-is c.args.m q full short, sym c.next_kept.ensures ∙ c.if-next_kept.true, and-true opened)
    (open_told c.args.m q formed _ c.words_of-table.ensures _ c.is_open.ensures)

pub returns-else-next_kept : goal.returns-else-next_kept
returns-else-next_kept c =
    let (formed, kinds, short, full) = c.requires in
    let q = c.args.q in
    let opened = is_open (family c.args.m q) (beginning q) in
    rw (place-is c.args.m q full short, sym c.next_kept.ensures ∙ c.if-next_kept.false, and-false opened)
    c.if-next_kept.false
