-- Why `read::read` meets its contract.
use Rattle.reader.proofs.FitsCommand.{text_fits}
use Rattle.reader.proofs.PrintableText.{printable_of_text}
use Rattle.reader.proofs.read.read.Goals as goal

pub returns-in-Ok-clause-fits : goal.returns-in-Ok-clause-fits
returns-in-Ok-clause-fits c = text_fits c.args.schema.now.relations c.as_bytes.result.now c.in-Ok.command c.in-Ok.ensures.found

pub returns-in-Ok-clause-printable : goal.returns-in-Ok-clause-printable
returns-in-Ok-clause-printable c = λ named.
    let fits = text_fits c.args.schema.now.relations c.as_bytes.result.now c.in-Ok.command c.in-Ok.ensures.found in
    printable_of_text c.args.schema.now.relations c.as_bytes.result.now c.in-Ok.command named c.in-Ok.ensures.found fits

pub returns-in-Err-clause-none : goal.returns-in-Err-clause-none
returns-in-Err-clause-none c = rw (c.within.ensures.rule, ← c.as_bytes.ensures.value) c.in-Err.ensures.none

pub returns-in-Err-clause-rule : goal.returns-in-Err-clause-rule
returns-in-Err-clause-rule c = rw (c.within.ensures.rule, ← c.as_bytes.ensures.value) c.in-Err.ensures.rule
