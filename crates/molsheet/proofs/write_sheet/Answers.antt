-- The sheet of a molfile.
-- By the reader's answer.
use Rattle.std.proofs.lemmas.Result.{err_from_is_err_and}
use Rattle.molsheet.proofs.Answers.{file-refused, file-formed, file-written}
use Rattle.molsheet.proofs.write_sheet.Goals as goal

pub write_record-requires : goal.write_record-requires
write_record-requires c = file-formed _ _ c.in_ok-read_molfile.ensures

pub returns-in_err-read_molfile : goal.returns-in_err-read_molfile
returns-in_err-read_molfile c =
    let p = err_from_is_err_and c.from_residual.result c.from_residual.ensures.1 in
    rw (p.1, p.2) (file-refused _ _ _ c.in_err-read_molfile.ensures)

pub returns : goal.returns
returns c = file-written _ _ c.in_ok-read_molfile.ensures _ c.write_record.ensures
