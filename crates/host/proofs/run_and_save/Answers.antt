-- `host::run_and_save` meets its contract, from what the run and the save ensure.
-- Rule 12 allows the search that the run returns.
use Rattle.host.specs.Resume.{run_and_save}
use Rattle.host.proofs.Laws.{ran-kept}
use Rattle.host.proofs.run_and_save.Goals as goal

pub save_checked-requires : goal.save_checked-requires
save_checked-requires c =
    let (formed, kept, own) = c.requires in
    (formed, ran-kept _ _ formed kept _ _ _ c.run_checked-ran.ensures.0, own)

pub returns : goal.returns
unfolding run_and_save
returns c =
    let (ran, wrote) = c.run_checked-ran.ensures in
    rw (← ran) (c.ended_number.ensures, wrote, c.save_checked.ensures.1)
