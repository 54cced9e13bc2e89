-- `openness::is_open_by` meets its contract: a beginning too short for two sets is tested by itself; of a longer one
-- first its first atoms, which are open where the whole is, then the further ones.
use Prim.Native.Nat.{◌≤◌, ◌<◌}
use native.Mathlib.Omega.{arith}
use lib.ListN.{length}
use mathlib.Core.Path.{◌≡◌, sym, ◌∙◌}
use mathlib.Core.Bool.{false}
use Rattle.search.specs.Place.{lists_paths}
use Rattle.openness.specs.Plan.{first_length}
use Rattle.openness.proofs.Plans.{ring-words, most-room, short-ring-kind}
use Rattle.openness.proofs.Opens.{one-of-rings, first_stops}
use Rattle.openness.proofs.is_open_by.Goals as goal
use Rattle.openness.proofs.is_open_by.Goals.{Else-beginning-first_length, Then-beginning-first_length}

-- a beginning that is long enough for two sets
long :
    (c : Else-beginning-first_length) → let args = c.args in
    first_length args.wanted.kind ≤ length args.beginning.now
long c = omega (arith, c.if-beginning-first_length.false, c.first_length.ensures)

-- one that is too short for them: no path is listed
ring : (c : Then-beginning-first_length) → lists_paths c.args.wanted.kind ≡ false
ring c =
    let (words, kinds, few, some) = c.requires in
    short-ring-kind c.args.wanted.kind (omega (arith, some, c.if-beginning-first_length.true, c.first_length.ensures))

pub one_opens-requires : goal.one_opens-requires
one_opens-requires c =
    let places = goal.at.one_opens-requires c in
    let (words, kinds, few, some) = c.requires in (
      ring-words words (ring places.Then-beginning-first_length),
      rw c.most_atoms-most.ensures (most-room _ c.args.wanted.table.now _ _ _ kinds),
      some,
    )

pub returns-then-beginning-first_length : goal.returns-then-beginning-first_length
returns-then-beginning-first_length c =
    let args = c.args in
    let short : length args.beginning.now < first_length args.wanted.kind =
    omega (arith, c.if-beginning-first_length.true, c.first_length.ensures) in
    let (words, kinds, few, some) = c.requires in
    one-of-rings _ _ _ args.beginning.now some args.wanted.kind args.wanted.s args.wanted.t words.few
    c.most_atoms-most.ensures short c.one_opens.ensures

pub returns-else-first_opens : goal.returns-else-first_opens
returns-else-first_opens c =
    let places = goal.at.returns-else-first_opens c in
    c.if-first_opens.false ∙
    sym (first_stops _ _ _ _ _ _ (long places.Else-beginning-first_length) c.first_opens.ensures c.if-first_opens.false)
