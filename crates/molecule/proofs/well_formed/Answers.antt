-- Rule 9.
-- The tests before the count are one law, and the count decides where they are kept.
use Rattle.std.proofs.Common.{◌≡◌, ◌∙◌, rules, sym}
use Rattle.molecule.proofs.Rules.{tests_kept, rule-broken, rule-counts}
use Rattle.molecule.proofs.well_formed.Goals as goal

pub returns-then-rows_sound : goal.returns-then-rows_sound
returns-then-rows_sound c =
    let kept : c.if-m-le1024.value ≡ tests_kept c.args.m = search rules in
    let bytes = c.ones_of.ensures.bytes (search rules) in
    rw c.ones_of.ensures.ones_are (sym (rule-counts c.args.m bytes (sym kept ∙ c.if-rows_sound.true)))

pub returns-else-rows_sound : goal.returns-else-rows_sound
returns-else-rows_sound c =
    let kept : c.if-m-le1024.value ≡ tests_kept c.args.m = search rules in
    c.if-rows_sound.false ∙ sym (rule-broken c.args.m (sym kept ∙ c.if-rows_sound.false))
