-- `openness::first_aim` meets its contract, by the kind: of a ring the first two atoms, of a path the first one.
-- The sets of each kind are carried to the beginning by `first-ring` and `first-path`.
use mathlib.Core.Path.{◌≡◌, sym, ◌∙◌}
use mathlib.Core.Bool.{false}
use Rattle.search.specs.Place.{lists_paths}
use Rattle.openness.specs.Plan.{first_length}
use Rattle.openness.proofs.Plans.{path-ends}
use Rattle.openness.proofs.Aims.{BegunTo, two-atoms, first-ring, first-path}
use Rattle.openness.proofs.first_aim.Goals as goal
use Rattle.openness.proofs.first_aim.Goals.{Else-lists_paths, Start}

-- the first atoms are an open beginning
begun :
    (c : Start) → let wanted = c.args.wanted in
    BegunTo wanted.n wanted.table.now wanted.kind wanted.s wanted.t c.args.beginning.now (first_length wanted.kind)
begun c = record { within = c.requires.1; begun = c.requires.0 }

pub path_aim-requires : goal.path_aim-requires
path_aim-requires c =
    path-ends c.requires.0 (sym c.lists_paths.ensures ∙ c.if-lists_paths.true)

pub returns-then-lists_paths : goal.returns-then-lists_paths
returns-then-lists_paths c =
    let places = goal.at.returns-then-lists_paths c in
    first-path (begun places.Start) (sym c.lists_paths.ensures ∙ c.if-lists_paths.true) c.path_aim.ensures

-- no path is listed
ring : (c : Else-lists_paths) → lists_paths c.args.wanted.kind ≡ false
ring c = sym c.lists_paths.ensures ∙ c.if-lists_paths.false

pub ring_aim-requires : goal.ring_aim-requires
ring_aim-requires c =
    let places = goal.at.ring_aim-requires c in
    two-atoms (begun places.Start) (ring places.Else-lists_paths) c.from.ensures c.from-2.ensures

pub returns : goal.returns
returns c =
    let places = goal.at.returns c in
    first-ring (begun places.Start) (ring places.Else-lists_paths) c.from.ensures
    c.from-2.ensures c.ring_aim.ensures
