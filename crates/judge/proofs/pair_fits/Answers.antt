-- One pair of places: different atoms, bonded exactly when joined.
-- The bit that the code reads is the bond, since both atoms are in range.
use native.Mathlib.Omega.{arith}
use Rattle.judge.proofs.Tests.{PairRead, two-atoms, pair-equal, pair-differs}
use Rattle.judge.proofs.pair_fits.Lts as lts
use Rattle.judge.proofs.pair_fits.Reads as reads
use Rattle.judge.proofs.pair_fits.Tie as tie
use Rattle.judge.proofs.pair_fits.Goals as goal

-- what is known at a place of the function
abbrev Place : (lts.Claims → lts.Pre-type → lts.Post-type → Type 0) → Type 0
Place place = place tie.the-claims reads.Pre reads.Post

pair :
    (c : Place lts.After-from2) →
    let args = c.args in
    PairRead args.n args.xs.now args.i args.j c.from-a.result c.from-b.result
pair c = record { places = c.requires; left = c.from-a.ensures; right = c.from-b.ensures }

pub overflow_sub-a : goal.overflow_sub-a
overflow_sub-a c = (two-atoms (pair (search))).left_low

pub overflow_sub-b : goal.overflow_sub-b
overflow_sub-b c = (two-atoms (pair (search))).right_low

pub linked-requires : goal.linked-requires
linked-requires c = omega (arith, two-atoms (pair (search)))

pub returns-then-a-b : goal.returns-then-a-b
returns-then-a-b c = pair-differs (pair (search)) _ _ c.if-a-b.true c.linked.ensures c.joined.ensures

pub returns-else-a-b : goal.returns-else-a-b
returns-else-a-b c = pair-equal (pair (search)) _ _ c.if-a-b.false
