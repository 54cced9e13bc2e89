-- A list judged as a path from s to t: rules 9, 10 and 11 first, then the definition.
use mathlib.Core.Path.{sym, ◌∙◌}
use Rattle.std.proofs.lemmas.Result.{err_from_is_err_and}
use Rattle.molecule.proofs.Bonds.{rule9}
use Rattle.judge.proofs.Answers.{path-no-record, path-refused, path-judged}
use Rattle.judge.proofs.judge_path.Goals as goal

pub returns-then-not-well_formed : goal.returns-then-not-well_formed
returns-then-not-well_formed c = path-no-record _ (sym c.well_formed-2.ensures ∙ c.if-not-well_formed.true) _ _ _

pub returns-in_err-check_ends : goal.returns-in_err-check_ends
returns-in_err-check_ends c =
    let refused = err_from_is_err_and c.from_residual.result c.from_residual.ensures.1 in
    let formed = sym c.well_formed-2.ensures ∙ c.if-not-well_formed.false in
    let ends = sym c.check_ends.ensures ∙ c.in_err-check_ends.was in
    rw (refused.1, refused.2) (path-refused _ _ formed _ _ ends)

pub is_path-requires : goal.is_path-requires
is_path-requires c = (rule9 _ (sym c.well_formed-2.ensures ∙ c.if-not-well_formed.false)).atoms_high

pub returns : goal.returns
returns c =
    let formed = sym c.well_formed-2.ensures ∙ c.if-not-well_formed.false in
    let ends = sym c.check_ends.ensures ∙ c.in_ok-check_ends.was in
    path-judged _ _ formed _ _ ends c.is_path.ensures
