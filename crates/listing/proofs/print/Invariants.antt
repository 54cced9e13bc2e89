-- The listing stands as demand 3 speaks of it, or no run follows; what is printed, and then the text of what is left,
-- is the text of the whole. Each turn that another follows lists a ring that was not listed yet, or is the last run.
use Rattle.std.proofs.Common.{◌≡◌, length}
use Rattle.listing.specs.Sound.{Sound}
use Rattle.listing.proofs.Joined.{left}
use Rattle.listing.proofs.Printing.{Printing}
use Rattle.listing.proofs.print.Given as goal

abbrev pub invariant-loop-next : goal.invariant-loop-next
invariant-loop-next g l = record {
  size : 65536 ≡ length l.piece;
  sound : Sound l.listing;
  printing :
      Printing l.fn.begun (g.W.Write.contents l.initial.out) (g.W.Write.contents l.out) l.listing l.piece;
}

abbrev pub decreases-loop-next : goal.decreases-loop-next
decreases-loop-next g l = left l.listing
