-- `mark_writer::save_old` meets its contract, by rule 13.
-- The size of an old mark is that of its text.
use native.Mathlib.Omega.{arith}
use mathlib.Core.Path.{refl}
use borrow.Author.Rules.{rules}
use Rattle.mark_writer.proofs.Answers.{Saving, saving-short, old-room, old-fits, old-written}
use Rattle.mark_writer.proofs.save_old.Lts as lts
use Rattle.mark_writer.proofs.save_old.Reads as reads
use Rattle.mark_writer.proofs.save_old.Tie as tie
use Rattle.mark_writer.proofs.save_old.Goals as goal

-- what is known at a place of the function
abbrev Place : (lts.Claims → lts.Pre-type → lts.Post-type → Type 0) → Type 0
Place place = place tie.the-claims reads.Pre reads.Post

-- ---- what is known at the start

saving : (c : Place lts.Start) → Saving c.args.m c.args.q
saving c = record { formed = c.requires.0; kept = c.requires.1; full = search rules }

pub returns-then-out-end : goal.returns-then-out-end
returns-then-out-end c =
    (old-room (saving (search)) c.args.out.now (omega arith), refl)

pub put_three_lines-requires : goal.put_three_lines-requires
put_three_lines-requires c = old-fits (saving (search)) _ c.if-out-end.false

pub returns : goal.returns
returns c =
    old-written (saving (search)) _ c.if-out-end.false c.put_three_lines.ensures

pub overflow_mul-end : goal.overflow_mul-end
overflow_mul-end c = omega (arith, saving-short (saving (search)))

pub overflow_add-end : goal.overflow_add-end
overflow_add-end c = omega (arith, saving-short (saving (search)))
