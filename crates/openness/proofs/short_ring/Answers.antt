-- `openness::short_ring` meets its contract, by the length of the beginning and its atom.
-- Each answer is that of the function it calls, or the plan that is kept.
use mathlib.Core.Path.{◌≡◌, refl, sym, ◌∙◌}
use lib.ListN.{length}
use borrow.Author.Tests.{eqb-true, eqb-false}
use Rattle.openness.proofs.Plans.{kept-found, made_found, start-found, first-atom}
use Rattle.openness.proofs.short_ring.Goals as goal
use Rattle.openness.proofs.short_ring.Goals.{Else-is_empty}

-- the beginning has an atom
some : (c : Else-is_empty) → length c.args.beginning.now ≡ 0 → ⊥
some c = eqb-false _ 0 (sym c.is_empty.ensures ∙ c.if-is_empty.false)

pub returns-then-is_empty : goal.returns-then-is_empty
returns-then-is_empty c =
    start-found c.requires (eqb-true _ 0 (sym c.is_empty.ensures ∙ c.if-is_empty.true))
    c.empty-members.ensures c.first_ahead-ahead.ensures
    c.atom_alone-opens.ensures

pub first_plan-made-requires : goal.first_plan-made-requires
first_plan-made-requires c =
    let places = goal.at.first_plan-made-requires c in
    first-atom c.requires (some places.Else-is_empty) refl

pub returns-then-beginning-kept : goal.returns-then-beginning-kept
returns-then-beginning-kept c =
    let places = goal.at.returns-then-beginning-kept c in
    rw (← c.in-Some.is) (kept-found c.requires (some places.Else-is_empty) c.in-Some.is c.if-beginning-kept.true)

pub returns : goal.returns
returns c =
    let places = goal.at.returns c in
    made_found c.requires (some places.Else-is_empty) c.first_plan-made.ensures
