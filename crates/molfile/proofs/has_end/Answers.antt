-- Whether a line is exactly M  END.
-- Each return by the line that was read last.
use mathlib.Core.Path.{sym, ◌∙◌}
use Rattle.molfile.proofs.Ends.{no_end, end-here, end_later}
use Rattle.molfile.proofs.has_end.Goals as goal

pub returns-then-is_end : goal.returns-then-is_end
returns-then-is_end c = end-here c.in-Some.ensures (sym c.if-is_end.ensures) ∙ c.loop-line.invariant.1

pub loop-line-preserved : goal.loop-line-preserved
loop-line-preserved c =
    let found = c.in-Some.ensures in
    (found.inside, end_later found (sym c.if-is_end.ensures) ∙ c.loop-line.invariant.1)

pub returns : goal.returns
returns c = no_end c.args.s.now c.loop-line.at c.in_default.ensures ∙ c.loop-line.invariant.1
