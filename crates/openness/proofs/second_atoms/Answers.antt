-- `openness::second_atoms` meets its contract. The invariant is `Sifted`: what is told of the atoms taken so far.
-- Each turn takes the lowest atom that is left as the last one of a ring; the measure is what is left.
use Rattle.atomset.proofs.Size.{rest-fewer}
use Rattle.openness.proofs.Rings.{SiftingTurn, sifted-turn, sifted-end}
use Rattle.openness.proofs.second_atoms.Goals as goal
use Rattle.openness.proofs.second_atoms.Goals.{After-union-with_last}

-- what the turn finds
turned :
    (c : After-union-with_last) →
    let args = c.args in
    SiftingTurn args.n args.table.now args.most args.s c.loop-between.left c.loop-between.shut c.loop-between.found
    c.without_lowest-rest.result c.union-with_last.result c.union-opened.result
turned c =
    let lowest = c.without_lowest-rest.ensures in
    record {
      atom = c.requires;
      sifted = c.loop-between.invariant;
      alone = c.lowest_alone-last.result;
      between = c.minus-between.result;
      more = c.reached_from-more.result;
      fewer = c.minus.result;
      takes = lowest;
      alone_is = c.lowest_alone-last.ensures _ lowest.lowest;
      between_is = λ v. rw (c.minus-between.ensures v, c.range-low.ensures v, c.row-row.ensures v);
      more_is = c.reached_from-more.ensures;
      opened_is = c.union-opened.ensures;
      fewer_is = c.minus.ensures;
      closed_is = c.union-with_last.ensures;
    }

pub returns : goal.returns
returns c =
    let none = c.is_empty.ensures.none c.loop-between-test.false in
    sifted-end c.requires c.loop-between.invariant none

pub loop-between-smaller : goal.loop-between-smaller
loop-between-smaller c = rest-fewer c.without_lowest-rest.ensures

pub loop-between-preserved : goal.loop-between-preserved
loop-between-preserved c = sifted-turn (turned c)
