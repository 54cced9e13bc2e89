-- `mark_writer::save_in` meets its contract.
-- By the form: in each it is the save of that form.
use borrow.Author.Rules.{rules}
use Rattle.mark_writer.proofs.Answers.{Saving, new-saved}
use Rattle.mark_writer.proofs.MarkSplices.{own-lines-none}
use Rattle.mark_writer.proofs.save_in.Lts as lts
use Rattle.mark_writer.proofs.save_in.Reads as reads
use Rattle.mark_writer.proofs.save_in.Tie as tie
use Rattle.mark_writer.proofs.save_in.Goals as goal

-- what is known at a place of the function
abbrev Place : (lts.Claims → lts.Pre-type → lts.Post-type → Type 0) → Type 0
Place place = place tie.the-claims reads.Pre reads.Post

-- ---- what is known at the start

saving : (c : Place lts.Start) → Saving c.args.m c.args.q
saving c = record { formed = c.requires.0; kept = c.requires.1; full = search rules }

pub save_checked-requires : goal.save_checked-requires
save_checked-requires c =
    (c.requires.0, c.requires.1, own-lines-none _ _ (search rules))

pub returns-in-Old : goal.returns-in-Old
returns-in-Old c =
    rw c.in-Old.is c.save_old.ensures

pub returns-in-New : goal.returns-in-New
returns-in-New c =
    rw c.in-New.is (new-saved (saving (search)) _ c.save_checked.ensures)
