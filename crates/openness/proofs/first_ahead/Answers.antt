-- `openness::first_ahead` meets its contract. The invariant: no atom from c on and below a begins a ring.
use native.Mathlib.Omega.{arith}
use mathlib.Core.Path.{◌≡◌, sym, ap, ◌∙◌}
use mathlib.Core.Bool.{not}
use mathlib.Core.List.{[], ◌∷◌}
use Rattle.enumeration.specs.Words.{is_open}
use Rattle.openness.specs.Plan.{rings_by}
use Rattle.openness.proofs.Rings.{seconds-tell, starts-told}
use Rattle.openness.proofs.Rings.{none_more, turn-atom, ahead-first, ahead_none}
use Rattle.openness.proofs.first_ahead.Goals as goal
use Rattle.openness.proofs.first_ahead.Goals.{After-is_empty}

-- the second atoms of the atom of a turn tell whether it begins a ring
begins :
    (c : After-is_empty) →
    let args = c.args in
    not c.is_empty.result ≡ is_open (rings_by args.n args.table.now args.most) (c.loop-a.a ∷ [])
begins c =
    starts-told (turn-atom c.loop-a.invariant c.requires c.loop-a-test.true) c.second_atoms-opens.ensures
    c.is_empty.ensures

pub returns-then-not-is_empty : goal.returns-then-not-is_empty
returns-then-not-is_empty c =
    let places = goal.at.returns-then-not-is_empty c in
    ahead-first c.loop-a.invariant (turn-atom c.loop-a.invariant c.requires c.loop-a-test.true)
    (sym (begins places.After-is_empty) ∙ ap not c.if-not-is_empty.true)
    (seconds-tell _ _ c.empty-members.ensures c.second_atoms-opens.ensures)

pub loop-a-preserved : goal.loop-a-preserved
loop-a-preserved c =
    let places = goal.at.loop-a-preserved c in
    none_more c.loop-a.invariant (sym (begins places.After-is_empty) ∙ ap not c.if-not-is_empty.false)

pub returns-else-not-is_empty : goal.returns-else-not-is_empty
returns-else-not-is_empty c =
    let places = goal.at.returns-else-not-is_empty c in
    let shut = sym (begins places.After-is_empty) ∙ ap not c.if-not-is_empty.false in
    ahead_none (none_more c.loop-a.invariant shut) (omega arith)
