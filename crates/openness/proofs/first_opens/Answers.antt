-- `openness::first_opens` meets its contract, by the kind: a path's first atom, or a ring's first two.
-- A number that is no atom stands in no open beginning.
use native.Mathlib.Omega.{arith}
use mathlib.Core.Path.{◌≡◌, sym, ◌∙◌}
use mathlib.Core.Bool.{false}
use Rattle.molecule.proofs.Bonds.{atom-bounds}
use Rattle.search.specs.Place.{lists_paths}
use Rattle.openness.specs.Parts.{TwoAtoms}
use Rattle.openness.proofs.Plans.{ring-words, kind-ends, most-room}
use Rattle.openness.proofs.Opens.{first-path-opens, first-ring-opens, first-no-atom}
use Rattle.openness.proofs.first_opens.Goals as goal
use Rattle.openness.proofs.first_opens.Goals.{Else-lists_paths, Else-not-is_atom-2}

pub path_starts-requires : goal.path_starts-requires
path_starts-requires c =
    let (words, kinds, size) = c.requires in
    let path = sym c.lists_paths.ensures ∙ c.if-lists_paths.true in (
      record {
        few = words.few;
        irreflexive = words.irreflexive;
        ends = kind-ends _ c.args.wanted.table.now _ _ _ path kinds;
      },
      words,
    )

pub returns-then-lists_paths : goal.returns-then-lists_paths
returns-then-lists_paths c =
    let path = sym c.lists_paths.ensures ∙ c.if-lists_paths.true in
    first-path-opens _ _ _ _ _ _ c.requires.2 c.requires.0 path
    c.from-a.ensures c.path_starts.ensures

-- no path is listed
ring : (c : Else-lists_paths) → lists_paths c.args.wanted.kind ≡ false
ring c = sym c.lists_paths.ensures ∙ c.if-lists_paths.false

-- of a ring, no atom stands at its first place, or at its second
pub returns-then-not-is_atom : goal.returns-then-not-is_atom
returns-then-not-is_atom c =
    let places = goal.at.returns-then-not-is_atom c in
    let none = sym c.is_atom.ensures ∙ c.if-not-is_atom.true in
    first-no-atom _ _ _ _ _ _ c.requires.2 c.requires.0 (ring places.Else-lists_paths) (omega arith)
    c.from-a.ensures none

pub returns-then-not-is_atom-2 : goal.returns-then-not-is_atom-2
returns-then-not-is_atom-2 c =
    let places = goal.at.returns-then-not-is_atom-2 c in
    let none = sym c.is_atom-2.ensures ∙ c.if-not-is_atom-2.true in
    first-no-atom _ _ _ _ _ _ c.requires.2 c.requires.0 (ring places.Else-lists_paths) (omega arith)
    c.from-b.ensures none

-- two atoms, past the tests of both: the places where they are read, and the start
two :
    (c : Else-not-is_atom-2) →
    let args = c.args in
    TwoAtoms args.wanted.n args.wanted.table.now c.from-a.result c.from-b.result
two c =
    let one = atom-bounds _ _ (sym c.is_atom.ensures ∙ c.if-not-is_atom.false) in
    let other = atom-bounds _ _ (sym c.is_atom-2.ensures ∙ c.if-not-is_atom-2.false) in
    record {
      words = ring-words c.requires.0 (sym c.lists_paths.ensures ∙ c.if-lists_paths.false);
      first_low = one.0;
      first_high = one.1;
      second_low = other.0;
      second_high = other.1;
    }

pub pair_opens-requires : goal.pair_opens-requires
pair_opens-requires c =
    let places = goal.at.pair_opens-requires c in
    let (words, kinds, size) = c.requires in
    (two places.Else-not-is_atom-2, rw c.most_atoms-most.ensures (most-room _ c.args.wanted.table.now _ _ _ kinds))

pub returns : goal.returns
returns c =
    let places = goal.at.returns c in
    first-ring-opens _ _ _ _ _ _ c.requires.2 c.requires.0 (ring places.Else-lists_paths) c.most_atoms-most.ensures
    c.from-a.ensures
    c.from-b.ensures c.pair_opens.ensures
