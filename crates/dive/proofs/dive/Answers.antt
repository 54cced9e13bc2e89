-- `dive::dive` meets its contract. The invariant is `Diving`, for any family that the sets steer; the measure is the
-- trials up to `most`, and the length of the beginning. Each turn is a law of `Descents`.
use native.Mathlib.Omega.{arith}
use mathlib.Core.Path.{refl, sym, ◌∙◌}
use Rattle.openness.proofs.Arrays.{taken-length}
use Rattle.dive.proofs.Descents.{diving-starts, diving-left, deep_room, diving-drops, diving-lists, diving-extends}
use Rattle.dive.proofs.Descents.{Tries, rising, falls-by, added-here, longer-length}
use Rattle.dive.proofs.Listings.{listed-within, room-in-part}
use Rattle.dive.proofs.dive.Goals as goal

pub loop-at-init : goal.loop-at-init
loop-at-init c d = diving-starts d

pub overflow_sub-most : goal.overflow_sub-most
overflow_sub-most c = (c.loop-at.invariant c.requires).bounds.trials_most

pub offset_bounds-levels-len : goal.offset_bounds-levels-len
offset_bounds-levels-len c = let k = c.loop-at.invariant c.requires in omega (arith, k.held.short)

pub bounds-levels-len : goal.bounds-levels-len
bounds-levels-len c =
    deep_room c.requires (c.loop-at.invariant c.requires) c.loop-at-test.true c.if-most-at-lt-NEAR.false

pub slice_copy_out-level : goal.slice_copy_out-level
slice_copy_out-level c =
    deep_room c.requires (c.loop-at.invariant c.requires) c.loop-at-test.true c.if-most-at-lt-NEAR.false

-- ---- the last atom is dropped

pub bounds-prefix-len : goal.bounds-prefix-len
bounds-prefix-len c = let k = c.loop-at.invariant c.requires in omega (arith, k.held.short)

pub bounds-prefix-len-then-is_empty : goal.bounds-prefix-len-then-is_empty
bounds-prefix-len-then-is_empty c = let k = c.loop-at.invariant c.requires in omega (arith, k.held.short)

pub dropped-at-requires : goal.dropped-at-requires
dropped-at-requires c =
    let k = c.loop-at.invariant c.requires in (
      record { ahead = k.high; few = c.requires.words.few; countable = omega (arith, k.bounds) },
      omega (arith, c.loop-at-test.true, c.requires.some),
      omega arith,
    )

pub loop-at-preserved-then-is_empty : goal.loop-at-preserved-then-is_empty
loop-at-preserved-then-is_empty c d =
    rw c.dropped-at.ensures
    (diving-drops d (c.loop-at.invariant d) c.loop-at-test.true c.if-most-at-lt-NEAR.false c.from-last.ensures
    (rw c.rest-rest.ensures at (c.is_empty.ensures.none c.if-is_empty.true)))

-- ---- the lowest atom is tried

tries :
    (c : goal.After-without_lowest-others) →
    Tries c.args.most c.args.from.at c.loop-at.at c.loop-at.levels c.lowest-v.result c.without_lowest-others.result
tries c = record {
  deep = c.loop-at-test.true;
  far = c.if-most-at-lt-NEAR.false;
  lowest = rw c.rest-rest.ensures at c.lowest-v.ensures;
  left = rw c.rest-rest.ensures at c.without_lowest-others.ensures;
}

pub offset_bounds-levels-len-else-is_empty : goal.offset_bounds-levels-len-else-is_empty
offset_bounds-levels-len-else-is_empty c =
    let k = c.loop-at.invariant c.requires in omega (arith, k.held.short)

-- ---- a closing atom

pub overflow_sub-out : goal.overflow_sub-out
overflow_sub-out c = listed-within (c.loop-at.invariant c.requires).listing

pub shared_ref_as_front-put_record : goal.shared_ref_as_front-put_record
shared_ref_as_front-put_record c = (c.loop-at.invariant c.requires).held.within.most

pub put_record-requires : goal.put_record-requires
put_record-requires c =
    let k = c.loop-at.invariant c.requires in
    let size = taken-length c.loop-at.prefix c.loop-at.at.len k.held.within.size k.held.within.most in
    (rw size k.held.short, c.lowest-v.ensures.high, rw size (room-in-part k.listing c.if-out-used.false))

pub listed-at-requires : goal.listed-at-requires
listed-at-requires c =
    let k = c.loop-at.invariant c.requires in
    (rising c.requires k (tries (search)), omega (arith, k.bounds))

pub loop-at-smaller-then-lowest_in : goal.loop-at-smaller-then-lowest_in
loop-at-smaller-then-lowest_in c =
    rw c.listed-at.ensures (omega (arith, falls-by c.requires (c.loop-at.invariant c.requires) (tries (search))))

pub loop-at-preserved-then-lowest_in : goal.loop-at-preserved-then-lowest_in
loop-at-preserved-then-lowest_in c d =
    let k = c.loop-at.invariant d in
    let t = tries (search) in
    let size = taken-length c.loop-at.prefix c.loop-at.at.len k.held.within.size k.held.within.most in
    rw (c.listed-at.ensures, c.keep_rest.ensures)
    (diving-lists d k t.deep t.far t.lowest t.left
    (rw c.aim-aim.ensures at (sym (c.lowest_in.ensures _ c.lowest-v.ensures) ∙ c.if-lowest_in.true)) c.if-out-used.false
    (rw size at c.put_record.ensures) refl refl)

-- ---- an atom that opens

pub bounds-prefix-len-else-lowest_in : goal.bounds-prefix-len-else-lowest_in
bounds-prefix-len-else-lowest_in c = let k = c.loop-at.invariant c.requires in omega (arith, k.held.short)

pub extended-at-requires : goal.extended-at-requires
extended-at-requires c =
    let k = c.loop-at.invariant c.requires in
    (rising c.requires k (tries (search)), k.held.within.most, omega (arith, k.bounds))

pub overflow_add-len : goal.overflow_add-len
overflow_add-len c = let k = c.loop-at.invariant c.requires in omega (arith, k.held.short)

pub shared_ref_as_front-plan_added : goal.shared_ref_as_front-plan_added
shared_ref_as_front-plan_added c = let k = c.loop-at.invariant c.requires in omega (arith, k.held.short)

pub plan_added-requires : goal.plan_added-requires
plan_added-requires c =
    let t = tries (search) in
    rw c.keep_rest.ensures
    (added-here c.requires (c.loop-at.invariant c.requires) t.deep t.far t.lowest t.left
    (rw c.aim-aim.ensures at (sym (c.lowest_in.ensures _ c.lowest-v.ensures) ∙ c.if-lowest_in.false)))

pub loop-at-smaller : goal.loop-at-smaller
loop-at-smaller c =
    rw c.extended-at.ensures (omega (arith, falls-by c.requires (c.loop-at.invariant c.requires) (tries (search))))

pub loop-at-preserved : goal.loop-at-preserved
loop-at-preserved c d =
    let k = c.loop-at.invariant d in
    let t = tries (search) in
    let opens = rw c.aim-aim.ensures at (sym (c.lowest_in.ensures _ c.lowest-v.ensures) ∙ c.if-lowest_in.false) in
    let size = longer-length d k t.deep t.far t.lowest t.left opens in
    rw c.extended-at.ensures
    (diving-extends d k t.deep t.far t.lowest t.left opens (rw (size, c.keep_rest.ensures) at c.plan_added.ensures))

-- ---- the ways out

pub returns-after-loop-at : goal.returns-after-loop-at
returns-after-loop-at c = diving-left c.requires (c.loop-at.invariant c.requires)

pub returns-then-most-at-lt-NEAR : goal.returns-then-most-at-lt-NEAR
returns-then-most-at-lt-NEAR c = diving-left c.requires (c.loop-at.invariant c.requires)

pub returns-then-out-used : goal.returns-then-out-used
returns-then-out-used c = diving-left c.requires (c.loop-at.invariant c.requires)
