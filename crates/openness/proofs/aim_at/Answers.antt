-- `openness::aim_at` meets its contract. The invariant: the sets steer the places passed.
-- A turn hands them on past the last of these, by `aimed_more`.
use native.Mathlib.Omega.{arith}
use Rattle.openness.proofs.Aims.{shorter, opened-place, aimed-some, aimed_more}
use Rattle.openness.proofs.aim_at.Goals as goal

pub first_aim-aim-requires : goal.first_aim-aim-requires
first_aim-aim-requires c = let (begun, long) = c.requires in (shorter begun _ long, long)

pub aim_after-aim-requires : goal.aim_after-aim-requires
aim_after-aim-requires c =
    let inv = c.loop-i.invariant in
    opened-place c.requires.0 _ (omega (arith, inv.within, aimed-some inv)) c.from.ensures

pub loop-i-preserved : goal.loop-i-preserved
loop-i-preserved c =
    let goes_on = c.loop-i-test.true in
    aimed_more c.loop-i.invariant (shorter c.requires.0 _ (omega arith)) goes_on c.from.ensures
    c.aim_after-aim.ensures
