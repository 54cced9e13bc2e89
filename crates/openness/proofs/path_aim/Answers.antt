-- `openness::path_aim` meets its contract: t, and every atom but s, steer the paths from s to t.
-- By `path-aimed`; both ends are atoms.
use native.Mathlib.Omega.{arith}
use Rattle.search.proofs.Readings.{ends-facts}
use Rattle.openness.proofs.Aims.{path-aimed}
use Rattle.openness.proofs.path_aim.Goals as goal

pub single-goal-requires : goal.single-goal-requires
single-goal-requires c =
    let ends = ends-facts _ _ _ c.requires.ends in
    (ends.t_low, omega (arith, c.requires.few))

pub without_atom-free-requires : goal.without_atom-free-requires
without_atom-free-requires c =
    let ends = ends-facts _ _ _ c.requires.ends in
    (ends.s_low, omega (arith, c.requires.few))

pub returns : goal.returns
returns c =
    path-aimed c.requires c.single-goal.ensures c.up_to-all.ensures c.without_atom-free.ensures
