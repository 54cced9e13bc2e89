-- `mark_writer::put_fields` meets its contract.
-- The invariant is `Put`: the first i numbers are put over the list, and `place` is where they end.
use native.Mathlib.Omega.{arith}
use mathlib.Core.Path.{refl}
use Rattle.bond_writer.proofs.Splices.{put-none, put-fits, put-more, put_all}
use Rattle.mark_writer.proofs.put_fields.Goals as goal

pub loop-v-init : goal.loop-v-init
loop-v-init c = put-none c.requires

pub put_field-requires : goal.put_field-requires
put_field-requires c = put-fits c.loop-v.invariant c.loop-v-test.true

pub overflow_add-place : goal.overflow_add-place
overflow_add-place c = omega (arith, put-fits c.loop-v.invariant c.loop-v-test.true)

pub loop-v-preserved : goal.loop-v-preserved
loop-v-preserved c =
    put-more c.loop-v.invariant c.loop-v-test.true refl c.put_field.auto.out c.put_field.ensures

pub returns : goal.returns
returns c = put_all c.loop-v.invariant c.loop-v-test.false
