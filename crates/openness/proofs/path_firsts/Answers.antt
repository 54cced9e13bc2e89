-- `openness::path_firsts` meets its contract: one sweep tells whether t is reached from s, the sole candidate; of
-- shortest paths the row of s tells. By `firsts-told`, `none-led` and `one-led`.
use native.Mathlib.Omega.{arith}
use Rattle.search.proofs.Readings.{ends-facts}
use Rattle.openness.proofs.Paths.{firsts-told, none-led, one-led}
use Rattle.openness.proofs.path_firsts.Goals as goal

pub single-alone-requires : goal.single-alone-requires
single-alone-requires c =
    let (two, words) = c.requires in
    let ends = ends-facts _ _ _ two.ends in
    (ends.s_low, omega (arith, two.few))

pub row-row-requires : goal.row-row-requires
row-row-requires c =
    let (two, words) = c.requires in
    let ends = ends-facts _ _ _ two.ends in
    (ends.s_low, omega (arith, two.few))

pub returns-then-is_empty : goal.returns-then-is_empty
returns-then-is_empty c =
    none-led c.requires.0 (c.requires.1.leading c.if-wanted-eq3.true) c.row-row.ensures
    c.is_empty.ensures c.if-is_empty.true

pub returns-then-wanted-eq3 : goal.returns-then-wanted-eq3
returns-then-wanted-eq3 c =
    one-led c.requires.0 (c.requires.1.leading c.if-wanted-eq3.true) c.row-row.ensures
    c.is_empty.ensures c.single-alone.ensures c.if-is_empty.false

pub single-goal-requires : goal.single-goal-requires
single-goal-requires c =
    let (two, words) = c.requires in
    let ends = ends-facts _ _ _ two.ends in
    (ends.t_low, omega (arith, two.few))

pub returns : goal.returns
returns c =
    firsts-told c.requires.0 c.single-goal.ensures c.up_to-all.ensures c.single-alone.ensures
    c.reached.ensures
