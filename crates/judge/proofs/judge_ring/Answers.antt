-- A list judged as a ring: rule 9 first, then the definition.
use mathlib.Core.Path.{sym, ◌∙◌}
use Rattle.molecule.proofs.Bonds.{rule9}
use Rattle.judge.proofs.Answers.{ring-no-record, ring-judged}
use Rattle.judge.proofs.judge_ring.Goals as goal

pub returns-then-not-well_formed : goal.returns-then-not-well_formed
returns-then-not-well_formed c = ring-no-record _ (sym c.well_formed-2.ensures ∙ c.if-not-well_formed.true) _

pub is_ring-requires : goal.is_ring-requires
is_ring-requires c = (rule9 _ (sym c.well_formed-2.ensures ∙ c.if-not-well_formed.false)).atoms_high

pub returns : goal.returns
returns c = ring-judged _ _ (sym c.well_formed-2.ensures ∙ c.if-not-well_formed.false) c.is_ring.ensures
