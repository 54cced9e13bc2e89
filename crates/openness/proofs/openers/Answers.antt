-- `openness::openers` meets its contract: the sweep tells; of shortest paths each candidate opens that makes no member.
-- By `sweep-opens` and `each_opens`.
use native.Mathlib.Omega.{arith}
use Rattle.openness.proofs.Steps.{each_opens, sweep-opens}
use Rattle.openness.proofs.openers.Goals as goal

pub returns-then-kind-ne3 : goal.returns-then-kind-ne3
returns-then-kind-ne3 c F most p x aim k = sweep-opens k c.reached.ensures

pub returns : goal.returns
returns c F most p x aim k = each_opens k (omega (arith, c.if-kind-ne3.false)) c.minus.ensures
