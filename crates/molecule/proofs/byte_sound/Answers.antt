-- Every bit of a byte; a zero byte at once.
-- `all` over the places of its bits is `all_below`.
use Rattle.std.proofs.Common.{◌∙◌, rules, tests, sym, refl}
use Rattle.std.proofs.lemmas.Iterator.{YieldsList-from_range}
use Rattle.std.proofs.lemmas.Iterator.Search.{all_from_yields_List}
use Rattle.molecule.specs.Parts.{bit_sound, byte_sound}
use Rattle.molecule.proofs.Checks.{zero-byte, all-range}
use Rattle.molecule.proofs.byte_sound.Goals as goal

pub returns-then-rows-at-eq0 : goal.returns-then-rows-at-eq0
returns-then-rows-at-eq0 c = simp c.if-rows-at-eq0.true (sym (zero-byte _ _ _ c.if-rows-at-eq0.true))

pub returns-else-rows-at-eq0 : goal.returns-else-rows-at-eq0
unfolding byte_sound
returns-else-rows-at-eq0 c =
    let test = bit_sound c.args.rows.now c.args.n c.args.at in
    all_from_yields_List test _ _ _ c.all.ensures.ran (YieldsList-from_range 0 8 8 refl refl)
    (λ x b q k. search (rules, tests))
    ∙ all-range test 8
