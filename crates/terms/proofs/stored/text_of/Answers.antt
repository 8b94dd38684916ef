-- What `from_utf8` and the test of a text answer is what reading gives.
use Rattle.std.proofs.Common.{Ok, ap, sym, ◌∙◌, ◌≡◌}
use Rattle.terms.specs.Stored.{printable_from}
use Rattle.terms.proofs.StoredTexts.{printable_is, printable_not}
use Rattle.terms.proofs.stored.text_of.Goals as goal

pub returns-in_default : goal.returns-in_default
returns-in_default c = printable_not c.args.bytes.now (λ utf8 _. c.in_default.ensures.cases.0 utf8)

pub returns-in_ok-copy_of : goal.returns-in_ok-copy_of
returns-in_ok-copy_of c =
    let same : c.in-Ok.text.now ≡ c.args.bytes.now = c.in-Ok.ensures.cases.0 in
    let text = c.is_text_up_to.ensures.0 c.if-is_text_up_to.true in
    let read : printable_from c.in-Ok.text.now ≡ Ok c.in-Ok.text.now = printable_is c.in-Ok.text.now text.utf8 text.printable in
    ap printable_from (sym same) ∙ read ∙ ap Ok (sym c.in_ok-copy_of.ensures)
