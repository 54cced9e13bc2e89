-- `openness::swept_plan` meets its contract: the members, and the atoms that open, of every beginning that the sets
-- steer. By `plan-told`, from what each call ensures.
use Rattle.openness.proofs.Steps.{plan-told}
use Rattle.openness.proofs.swept_plan.Goals as goal

pub returns : goal.returns
returns c =
    let (both_ways, handed, low, high) = c.requires in
    plan-told handed c.beside_last.ensures c.openers-opens.ensures
