-- `openness::plan_at` meets its contract, by the length of the beginning and the kind.
-- Each answer is that of the function it calls, carried to the family of the kind by the laws of `Plans`.
use Prim.Native.Nat.{◌<◌}
use native.Mathlib.Omega.{arith}
use lib.ListN.{length}
use mathlib.Core.Path.{sym, ◌∙◌}
use Rattle.openness.specs.Plan.{first_length}
use Rattle.openness.proofs.Plans.{ring-asked, ring-found, path-ends, path-found}
use Rattle.openness.proofs.plan_at.Goals as goal
use Rattle.openness.proofs.plan_at.Goals.{Else-first_length-beginning}

-- the beginning is too short for the two sets
short :
    (c : Else-first_length-beginning) → let args = c.args in
    length args.beginning.now < first_length args.wanted.kind
short c = omega (arith, c.if-first_length-beginning.false, c.first_length.ensures)

pub short_ring-requires : goal.short_ring-requires
short_ring-requires c =
    let places = goal.at.short_ring-requires c in
    let told = sym c.lists_paths.ensures ∙ c.if-not-lists_paths.true in
    ring-asked c.requires told c.most_atoms-most.ensures (short places.Else-first_length-beginning)

pub returns-then-not-lists_paths : goal.returns-then-not-lists_paths
returns-then-not-lists_paths c =
    let told = sym c.lists_paths.ensures ∙ c.if-not-lists_paths.true in
    ring-found c.requires told c.most_atoms-most.ensures c.short_ring.ensures

pub path_firsts-opens-requires : goal.path_firsts-opens-requires
path_firsts-opens-requires c =
    let told = sym c.lists_paths.ensures ∙ c.if-not-lists_paths.false in
    (path-ends c.requires.begun told, c.requires.begun.words)

pub returns : goal.returns
returns c =
    let places = goal.at.returns c in
    let told = sym c.lists_paths.ensures ∙ c.if-not-lists_paths.false in
    path-found c.requires told (short places.Else-first_length-beginning) c.empty-members.ensures
    c.path_firsts-opens.ensures
