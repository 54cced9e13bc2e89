-- `mark_writer::save_checked` meets its contract, by rule 13: the size of a mark is that of its text.
use native.Mathlib.Omega.{arith}
use borrow.Author.Rules.{rules}
use Rattle.mark_writer.proofs.Answers.{Saving, saving-short, saving-few, saving-fits}
use Rattle.mark_writer.proofs.Answers.{saved-room, saved-written}
use Rattle.mark_writer.proofs.save_checked.Lts as lts
use Rattle.mark_writer.proofs.save_checked.Reads as reads
use Rattle.mark_writer.proofs.save_checked.Tie as tie
use Rattle.mark_writer.proofs.save_checked.Goals as goal

-- what is known at a place of the function
abbrev Place : (lts.Claims → lts.Pre-type → lts.Post-type → Type 0) → Type 0
Place place = place tie.the-claims reads.Pre reads.Post

-- ---- what is known at the start

saving : (c : Place lts.Start) → Saving c.args.m c.args.q
saving c = record { formed = c.requires.0; kept = c.requires.1; full = search rules }

pub overflow_add-size-2 : goal.overflow_add-size-2
overflow_add-size-2 c = omega (arith, saving-short (saving (search)), saving-few (saving (search)))

pub returns-then-out-size : goal.returns-then-out-size
returns-then-out-size c = saved-room (saving (search)) _ (omega arith)

pub put_mark-requires : goal.put_mark-requires
put_mark-requires c =
    (saving-fits (saving (search)) _ c.if-out-size.false, c.requires.2)

pub returns : goal.returns
returns c =
    saved-written (saving (search)) _ c.if-out-size.false c.put_mark.ensures

pub overflow_mul-size : goal.overflow_mul-size
overflow_mul-size c = omega (arith, saving-short (saving (search)))

pub overflow_add-size : goal.overflow_add-size
overflow_add-size c = omega (arith, saving-short (saving (search)))

pub overflow_mul-size-2 : goal.overflow_mul-size-2
overflow_mul-size-2 c = omega (arith, saving-few (saving (search)))
