-- `host::ringlist_mark_length` meets its contract.
-- By its tests; a field of 4 columns is below 10,000, so that the sum fits.
use native.Mathlib.Omega.{arith}
use Rattle.host.proofs.Answers.{size-short, bonds-none, length_none, value-read, value-none, size-fields}
use Rattle.host.proofs.Answers.{bonds-small, length-small, size-past, size-read}
use Rattle.host.proofs.ringlist_mark_length.Goals as goal

pub returns-then-mark-lt91 : goal.returns-then-mark-lt91
returns-then-mark-lt91 c = size-short _ c.if-mark-lt91.true

pub returns-in_default : goal.returns-in_default
returns-in_default c = bonds-none _ c.if-mark-lt91.false (value-none 4 c.args.mark.now 16 c.in_default.ensures)

pub returns-in_default-filled_value : goal.returns-in_default-filled_value
returns-in_default-filled_value c =
    length_none _ c.if-mark-lt91.false (value-read 4 c.args.mark.now 16 c.in-Some.ensures).0
    (value-none 4 c.args.mark.now 20 c.in_default-filled_value.ensures)

pub overflow_mul-size : goal.overflow_mul-size
overflow_mul-size c =
    omega (arith, length-small (size-fields c.if-mark-lt91.false c.in-Some.ensures c.in-Some-filled_value.ensures))

pub overflow_add-size : goal.overflow_add-size
overflow_add-size c =
    omega (arith, length-small (size-fields c.if-mark-lt91.false c.in-Some.ensures c.in-Some-filled_value.ensures))

pub overflow_mul-size-2 : goal.overflow_mul-size-2
overflow_mul-size-2 c =
    omega (arith, bonds-small (size-fields c.if-mark-lt91.false c.in-Some.ensures c.in-Some-filled_value.ensures))

pub overflow_add-size-2 : goal.overflow_add-size-2
overflow_add-size-2 c =
    let read = size-fields c.if-mark-lt91.false c.in-Some.ensures c.in-Some-filled_value.ensures in
    omega (arith, bonds-small read, length-small read)

pub returns-then-mark-size : goal.returns-then-mark-size
returns-then-mark-size c =
    size-past (size-fields c.if-mark-lt91.false c.in-Some.ensures c.in-Some-filled_value.ensures) c.if-mark-size.true

pub returns : goal.returns
returns c =
    size-read (size-fields c.if-mark-lt91.false c.in-Some.ensures c.in-Some-filled_value.ensures) c.if-mark-size.false
