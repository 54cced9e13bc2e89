-- The judge of rings on flat buffers.
-- The assembled record is the one of the definition.
use mathlib.Core.Path.{ap, ◌∙◌}
use borrow.Author.Tests.{eq-eqb, ne_eqb}
use Rattle.judge.specs.Verdict.{judge_ring}
use Rattle.flat.specs.Codes.{verdict_code, ring_code}
use Rattle.flat.proofs.flat_judge_ring.Goals as goal

pub returns-then-rows-ne2048 : goal.returns-then-rows-ne2048
unfolding ring_code
returns-then-rows-ne2048 c = rw (ne_eqb _ 2048 c.if-rows-ne2048.true)

pub returns : goal.returns
unfolding ring_code
returns c =
    let same = ap (λ m. judge_ring m c.args.list.now) c.assemble.ensures in
    let judged = c.judge_ring.ensures ∙ same in
    rw (eq-eqb _ 2048 c.if-rows-ne2048.false) (c.verdict_code.ensures ∙ ap verdict_code judged)
