-- `dive::plan_level` meets its contract: the sets are handed on, the plan tells of every atom, and both are kept.
-- What is kept is found again, by the laws of what is kept by length.
use Rattle.dive.proofs.Levels.{level-planned}
use Rattle.dive.proofs.plan_level.Goals as goal

pub returns : goal.returns
returns c =
    let aim-is = c.aim-aim.ensures in
    rw (c.keep_rest.ensures, c.keep_aim.ensures)
    (level-planned c.args.levels.now c.args.len c.requires.4
    (record {
      handing = rw aim-is at c.aim_after-next.ensures;
      telling = rw aim-is at c.plan_by-plan.ensures;
      either_set = c.union-rest.ensures;
    }))
