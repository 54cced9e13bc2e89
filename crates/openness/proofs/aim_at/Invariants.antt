-- `openness::aim_at` meets its contract. The invariant: the sets steer the places passed.
-- A turn hands them on past the last of these, by `aimed_more`.
use Rattle.openness.proofs.Aims.{AimedTo}
use Rattle.openness.proofs.aim_at.Given as goal

abbrev pub invariant-loop-i : goal.invariant-loop-i
invariant-loop-i l = AimedTo l.wanted.n l.wanted.table.now l.wanted.kind l.wanted.s l.wanted.t l.beginning l.aim l.i
