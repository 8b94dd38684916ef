-- Why `field::text` meets its contract.
use Rattle.std.proofs.Common.{Ok, ap, sym, ◌∙◌, arith}
use Rattle.exchange.proofs.Fields.{no_text, text_is}
use Rattle.exchange.proofs.field.text.Goals as goal

pub returns-in_default : goal.returns-in_default
returns-in_default c = no_text c.args.field.now (omega arith) c.in_default.ensures.cases.0

pub returns : goal.returns
returns c =
    ap Ok (c.in_ok-copy_of.ensures ∙ c.in-Ok.ensures.cases.0) ∙ sym (text_is c.args.field.now (omega arith) c.in-Ok.ensures.cases.1 (sym c.has_control.ensures ∙ c.if-has_control.false))
