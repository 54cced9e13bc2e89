-- `openness::pair_opens` meets its contract: the tests of v, and then one sweep with v the sole candidate.
-- By `pair-told`; where v is not above s, or not bonded to it, nothing opens.
use Prim.Native.Nat.{ℕ}
use mathlib.Core.Path.{◌≡◌, sym, ◌∙◌}
use mathlib.Core.Bool.{◌&&◌, not}
use lib.Dec.{leb, ltb}
use Rattle.atomset.specs.Set.{has, linked_by}
use Rattle.openness.proofs.Rings.{first_of, pair-above, pair-bonded, pair-told}
use Rattle.openness.proofs.pair_opens.Goals as goal
use Rattle.openness.proofs.pair_opens.Goals.{After-contains, After-intersection-targets, After-minus-free}

-- ---- what is known there

bonded :
    (c : After-contains) →
    let args = c.args in
    linked_by args.table.now args.s args.v ≡ c.contains.result
bonded c = sym (c.row-first.ensures _) ∙ sym c.contains.ensures

targets-is :
    (c : After-intersection-targets) (u : ℕ) →
    let args = c.args in
    has c.intersection-targets.result u
    ≡ (ltb args.v u && leb u args.n && linked_by args.table.now args.s u)
targets-is c u =
    rw (c.intersection-targets.ensures u, c.range-above.ensures u, c.row-first.ensures u)

between_is :
    (c : After-minus-free) (u : ℕ) →
    let args = c.args in
    has c.minus-free.result u
    ≡ (ltb args.s u && leb u args.n && not (linked_by args.table.now args.s u))
between_is c u =
    rw (c.minus-free.ensures u, c.range-low.ensures u, c.row-first.ensures u)

pub returns-then-v-s : goal.returns-then-v-s
returns-then-v-s c = sym (pair-above (first_of c.requires) _ c.if-v-s.true)

pub returns-then-not-contains : goal.returns-then-not-contains
returns-then-not-contains c =
    let places = goal.at.returns-then-not-contains c in
    sym (pair-bonded (first_of c.requires) _ (bonded places.After-contains ∙ c.if-not-contains.true))

pub returns : goal.returns
returns c =
    let places = goal.at.returns c in
    c.contains-2.ensures ∙
    pair-told c.requires (targets-is places.After-intersection-targets) (between_is places.After-minus-free)
    c.single-alone.ensures
    c.reached-swept.ensures c.if-v-s.false (bonded places.After-contains ∙ c.if-not-contains.false)
