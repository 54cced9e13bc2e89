-- `openness::path_starts` meets its contract: only s begins a path, and the set of the atoms that begin one tells of s.
-- By `start-other` and the contract of `path_firsts`.
use native.Mathlib.Omega.{arith}
use mathlib.Core.Path.{sym, ◌∙◌}
use borrow.Author.Tests.{ne_eqb}
use Rattle.search.proofs.Readings.{ends-facts}
use Rattle.openness.proofs.Paths.{start-other}
use Rattle.openness.proofs.path_starts.Goals as goal

pub returns-else-c-wanted : goal.returns-else-c-wanted
returns-else-c-wanted c = ne_eqb _ _ c.if-c-wanted.false ∙ sym (start-other c.requires.0 c.if-c-wanted.false)

pub contains-requires : goal.contains-requires
contains-requires c =
    let (two, words) = c.requires in
    let ends = ends-facts _ _ _ two.ends in
    (ends.s_low, omega (arith, two.few))
