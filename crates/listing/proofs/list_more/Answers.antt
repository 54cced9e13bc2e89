-- `listing::list_more` meets its contract: the run's records are within its output, and their lines are the piece.
use Rattle.std.proofs.Common.{sym, length-take-le}
use Rattle.listing.proofs.Contracts.{used-within, rings-turned, refused-turned}
use Rattle.listing.proofs.list_more.Goals as goal

pub slice_bounds-out-end : goal.slice_bounds-out-end
slice_bounds-out-end c = used-within _ _ _ _ (sym c.in-Ok.ensures.0) c.in-Ok.ensures.1

pub slice_bounds-ring_lines-end : goal.slice_bounds-ring_lines-end
slice_bounds-ring_lines-end c =
    sym (length-take-le _ _ (used-within _ _ _ _ (sym c.in-Ok.ensures.0) c.in-Ok.ensures.1))

pub returns-in-Ok : goal.returns-in-Ok
returns-in-Ok c =
    rings-turned _ _ _ c.output-out.ensures (sym c.in-Ok.ensures.0) c.in-Ok.ensures.1 c.ring_lines.ensures
    c.after_stop.ensures

pub returns-in-Err : goal.returns-in-Err
returns-in-Err c = refused-turned _ _ _ c.output-out.ensures (sym c.in-Err.ensures.0)
