-- `openness::goes_on_open` meets its contract. The invariant: the places passed are an open beginning, and the sets
-- steer it. The first atom that does not open it decides; past one that does, the sets are handed on by `aimed_more`.
use Rattle.openness.proofs.Aims.{AimedTo}
use Rattle.openness.proofs.goes_on_open.Given as goal

abbrev pub invariant-loop-i : goal.invariant-loop-i
invariant-loop-i l = AimedTo l.wanted.n l.wanted.table.now l.wanted.kind l.wanted.s l.wanted.t l.beginning l.aim l.i
