-- `openness::goes_on_open` meets its contract. The invariant: the places passed are an open beginning, and the sets
-- steer it. The first atom that does not open it decides; past one that does, the sets are handed on by `aimed_more`.
use Prim.Native.Nat.{suc}
use native.Mathlib.Omega.{arith}
use mathlib.Core.Path.{◌≡◌, sym, ◌∙◌}
use lib.ListN.{take}
use Rattle.enumeration.specs.Words.{is_open}
use Rattle.openness.specs.Plan.{family_by}
use Rattle.openness.proofs.Opens.{open-beside, opens_in, open-stops, open_more}
use Rattle.openness.proofs.Aims.{aimed-begun, place-atom, begun-room, begun-each, begun-steps, steered-last}
use Rattle.openness.proofs.Aims.{aimed-some, aimed-open, aimed_more}
use Rattle.openness.proofs.goes_on_open.Goals as goal
use Rattle.openness.proofs.goes_on_open.Goals.{After-opens_by}

-- whether the next atom opens the beginning of those passed
told :
    (c : After-opens_by) → let args = c.args in
    c.opens_by.result ≡
    is_open (family_by args.wanted.n args.wanted.table.now args.wanted.kind args.wanted.s args.wanted.t)
    (take (suc c.loop-i.i) args.beginning.now)
told c =
    let inv = c.loop-i.invariant in
    let here = aimed-begun inv c.requires.0 c.requires.2 in
    let steered = steered-last c.from-x.ensures inv.steered in
    c.opens_by.ensures ∙
    opens_in _ c.loop-i-test.true c.from.ensures
    (c.swept_plan-plan.ensures _ _ _ steered (begun-each here (aimed-some inv) c.from-x.ensures)
    (begun-steps here c.steps_left-steps.ensures) _)

pub steps_left-steps-requires : goal.steps_left-steps-requires
steps_left-steps-requires c =
    let inv = c.loop-i.invariant in
    begun-room (aimed-begun inv c.requires.0 c.requires.2) (aimed-some inv)

pub swept_plan-plan-requires : goal.swept_plan-plan-requires
swept_plan-plan-requires c =
    let inv = c.loop-i.invariant in
    let here = aimed-begun inv c.requires.0 c.requires.2 in
    let (low, high) = place-atom here _ (omega (arith, aimed-some inv)) c.from-x.ensures in
    (here.begun.words.both_ways, c.aim_after-next.ensures, low, high)

pub returns-then-not-opens_by : goal.returns-then-not-opens_by
returns-then-not-opens_by c =
    let places = goal.at.returns-then-not-opens_by c in
    sym (open-stops (aimed-open c.loop-i.invariant) (told places.After-opens_by) c.if-not-opens_by.true)

pub loop-i-preserved : goal.loop-i-preserved
loop-i-preserved c =
    let places = goal.at.loop-i-preserved c in
    let inv = c.loop-i.invariant in
    let (first, long, short) = c.requires in
    let opened = open_more (aimed-open inv) c.loop-i-test.true (told places.After-opens_by) c.if-not-opens_by.false in
    aimed_more inv (open-beside opened first short) c.loop-i-test.true c.from-x.ensures
    c.aim_after-next.ensures

pub aim_after-next-requires : goal.aim_after-next-requires
aim_after-next-requires c =
    let inv = c.loop-i.invariant in
    let here = aimed-begun inv c.requires.0 c.requires.2 in
    place-atom here _ (omega (arith, aimed-some inv)) c.from-x.ensures
