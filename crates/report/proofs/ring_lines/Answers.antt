-- `report::ring_lines` meets its contract.
-- The invariant is `Printing`; the measure is the bytes of the records still ahead.
use Rattle.std.proofs.Common.{◌≡◌, ◌∷◌, arith, rules}
use Rattle.report.proofs.Texts.{prints-none}
use Rattle.report.proofs.Records.{printing-goes-on, printed-cut, printed-all}
use Rattle.report.proofs.ring_lines.Goals as goal

pub returns-then-text-records : goal.returns-then-text-records
returns-then-text-records c = prints-none _ _ _ (omega arith)

pub returns-then-rest-k : goal.returns-then-rest-k
returns-then-rest-k c =
    let left : c.loop-size.left.now ≡ c.from-k.result ∷ c.in-Some.rest.now = search rules in
    printed-cut c.loop-size.invariant left c.if-rest-k.true

pub loop-size-preserved : goal.loop-size-preserved
loop-size-preserved c =
    let left : c.loop-size.left.now ≡ c.from-k.result ∷ c.in-Some.rest.now = search rules in
    let cut = c.split_at.ensures in
    printing-goes-on c.loop-size.invariant left c.if-rest-k.false cut.front cut.back c.ring_line-used.ensures

pub overflow_add-used : goal.overflow_add-used
overflow_add-used c =
    let left : c.loop-size.left.now ≡ c.from-k.result ∷ c.in-Some.rest.now = search rules in
    let cut = c.split_at.ensures in
    let next =
    printing-goes-on c.loop-size.invariant left c.if-rest-k.false cut.front cut.back c.ring_line-used.ensures
    in
    omega arith

pub returns : goal.returns
returns c = printed-all c.loop-size.invariant (search rules)
