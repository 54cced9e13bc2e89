-- `openness::is_open` meets its contract: over the word table, and of shortest paths over the bonds that lead nearer.
-- These have the same shortest paths, by `near-family`; the empty beginning is open over any table.
use native.Mathlib.Omega.{arith}
use mathlib.Core.Path.{◌≡◌, sym, ◌∙◌}
use lib.ListN.{length}
use borrow.Author.Tests.{eqb-true, eqb-false}
use Rattle.openness.proofs.Opens.{open_none}
use Rattle.openness.proofs.Molecules.{near-table, near-open, near-measured}
use Rattle.openness.proofs.is_open.Goals as goal
use Rattle.openness.proofs.is_open.Goals.{Else-is_empty}

-- the beginning has an atom
some : (c : Else-is_empty) → length c.args.beginning.now ≡ 0 → ⊥
some c = eqb-false _ 0 (sym c.is_empty.ensures ∙ c.if-is_empty.false)

pub returns-then-is_empty : goal.returns-then-is_empty
returns-then-is_empty c = sym (open_none _ _ (eqb-true _ 0 (sym c.is_empty.ensures ∙ c.if-is_empty.true)))

pub nearing-near-requires : goal.nearing-near-requires
nearing-near-requires c =
    let (words, kinds, short) = c.requires in
    let (to-s, to-t) = near-measured _ _ _ _ _ c.if-wanted-eq3.true words kinds in
    search

pub is_open_by-requires : goal.is_open_by-requires
is_open_by-requires c =
    let places = goal.at.is_open_by-requires c in
    let (words, kinds, short) = c.requires in
    let table = near-table words.few c.if-wanted-eq3.true c.nearing-near.ensures in
    (table, kinds, short, omega (arith, some places.Else-is_empty))

pub returns-then-wanted-eq3 : goal.returns-then-wanted-eq3
returns-then-wanted-eq3 c =
    c.is_open_by.ensures ∙ near-open _ _ _ _ _ c.if-wanted-eq3.true _ _ c.nearing-near.ensures
