-- What a text was read as, put into a flat record.
-- By the reader's answer.
use Rattle.flat.proofs.Buffers.{read-wrong-length, read-accepted, read-refused}
use Rattle.flat.proofs.put_reading.Goals as goal

pub returns-then-record-ne2052 : goal.returns-then-record-ne2052
returns-then-record-ne2052 c =
    let (value, left) = read-wrong-length _ _ c.if-record-ne2052.true in
    record { value = value; record_after = left }

pub returns-in-Ok : goal.returns-in-Ok
returns-in-Ok c =
    let (value, left) = read-accepted _ c.if-record-ne2052.false _ c.flatten.ensures in
    rw c.in-Ok.is (record { value = value; record_after = left })

pub returns-in-Err : goal.returns-in-Err
returns-in-Err c =
    let (value, left) = read-refused _ c.if-record-ne2052.false _ c.number.ensures in
    rw c.in-Err.is (record { value = value; record_after = left })
