-- Why `field::integer` meets its contract.
use Rattle.std.proofs.Common.{◌≡◌, true, ap, sym, ◌∙◌}
use Rattle.exchange.specs.Field.{digits_of, is_numeral}
use Rattle.exchange.proofs.Fields.{numeral_is_text, integer_parsed}
use Rattle.exchange.proofs.field.integer.Goals as goal

pub returns-in_default : goal.returns-in_default
returns-in_default c =
    let digits : is_numeral (digits_of c.args.field.now) ≡ true = ap is_numeral (sym c.without_minus.ensures) ∙ sym c.is_numeral.ensures ∙ c.if-not-is_numeral.false in
    absurd (c.in_default.ensures.cases.0 (numeral_is_text c.args.field.now digits))

pub returns : goal.returns
returns c =
    let digits : is_numeral (digits_of c.args.field.now) ≡ true = ap is_numeral (sym c.without_minus.ensures) ∙ sym c.is_numeral.ensures ∙ c.if-not-is_numeral.false in
    c.or.ensures ∙ integer_parsed c.args.field.now _ digits (rw c.in-Ok.ensures.cases.0 at c.parse.ensures.value.0)
