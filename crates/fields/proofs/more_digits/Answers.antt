-- The digits that follow: the loop reads on exactly as `digits` does.
-- Invariant: what is left to read, with the value so far, is what was to be read at the start.
use Rattle.std.proofs.Common.{refl, ◌∙◌, sym}
use Rattle.fields.proofs.Turns.{digits-end, digits-stop, digits-alone, digits-full, digits_more}
use Rattle.fields.proofs.more_digits.Goals as goal

pub returns-then-not-is_digit : goal.returns-then-not-is_digit
returns-then-not-is_digit c =
    let other = sym c.is_digit.ensures ∙ c.if-not-is_digit.true in
    sym (digits-stop _ _ _ c.loop-i-test.true _ other) ∙ c.loop-i.invariant

pub returns-then-not-may_follow : goal.returns-then-not-may_follow
returns-then-not-may_follow c =
    let digit = sym c.is_digit.ensures ∙ c.if-not-is_digit.false in
    let alone = sym c.may_follow.ensures ∙ c.if-not-may_follow.true in
    sym (digits-alone _ _ _ c.loop-i-test.true digit refl _ alone) ∙ c.loop-i.invariant

pub returns-then-value-gt999999999999999999 : goal.returns-then-value-gt999999999999999999
returns-then-value-gt999999999999999999 c =
    let digit = sym c.is_digit.ensures ∙ c.if-not-is_digit.false in
    sym (digits-full _ _ _ c.loop-i-test.true digit refl _ c.if-value-gt999999999999999999.true)
    ∙ c.loop-i.invariant

pub loop-i-preserved : goal.loop-i-preserved
loop-i-preserved c =
    let digit = sym c.is_digit.ensures ∙ c.if-not-is_digit.false in
    let may = sym c.may_follow.ensures ∙ c.if-not-may_follow.false in
    sym (digits_more _ _ _ c.loop-i-test.true digit c.from.ensures _ may c.if-value-gt999999999999999999.false)
    ∙ c.loop-i.invariant

pub returns : goal.returns
returns c = sym (digits-end _ _ _ _ c.loop-i-test.false) ∙ c.loop-i.invariant
