-- Rules 6, 7 and 8.
-- What rules 6 and 7 refuse is the answer; what they accept keeps both.
use Rattle.std.proofs.lemmas.Result.{err_from_is_err_and}
use Rattle.bonds.proofs.Answers.{bonds-refused}
use Rattle.bonds.proofs.read_bonds.Goals as goal

pub returns-in_err-check_bonds : goal.returns-in_err-check_bonds
returns-in_err-check_bonds c =
    let refusal = err_from_is_err_and c.from_residual.result c.from_residual.ensures.1 in
    rw (refusal.1, refusal.2) (bonds-refused _ _ _ c.in_err-check_bonds.ensures)
