-- A whole slice as blanks and digits, by `after_blanks`.
-- Invariant: the blanks passed change nothing; the first digit hands over to `more_digits`.
use Rattle.std.proofs.Common.{◌∙◌, sym}
use Rattle.fields.proofs.Turns.{field_end, field-stop, field-digit, field-blank}
use Rattle.fields.proofs.after_blanks.Goals as goal

pub returns-then-not-is_digit : goal.returns-then-not-is_digit
returns-then-not-is_digit c =
    let other = sym c.is_digit.ensures ∙ c.if-not-is_digit.true in
    sym (field-stop _ _ _ c.loop-i-test.true c.if-b-ne-BLANK.true other) ∙ c.loop-i.invariant

pub returns-then-b-ne-BLANK : goal.returns-then-b-ne-BLANK
returns-then-b-ne-BLANK c =
    let digit = sym c.is_digit.ensures ∙ c.if-not-is_digit.false in
    c.more_digits.ensures
    ∙ sym (field-digit _ _ _ c.loop-i-test.true digit c.from.ensures c.if-b-ne-BLANK.true)
    ∙ c.loop-i.invariant

pub loop-i-preserved : goal.loop-i-preserved
loop-i-preserved c = sym (field-blank _ _ _ c.loop-i-test.true c.if-b-ne-BLANK.false) ∙ c.loop-i.invariant

pub returns : goal.returns
returns c = sym (field_end _ _ _ c.loop-i-test.false) ∙ c.loop-i.invariant
