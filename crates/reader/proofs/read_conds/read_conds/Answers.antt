-- Why `read_conds::read_conds` meets its contract.
use Rattle.reader.proofs.CondsOfText.{conds_of_text_fit}
use Rattle.reader.proofs.read_conds.read_conds.Goals as goal

pub returns-in-Ok-clause-fits : goal.returns-in-Ok-clause-fits
returns-in-Ok-clause-fits c = (conds_of_text_fit c.args.columns.now c.as_bytes.result.now c.in-Ok.conds c.in-Ok.ensures.found).0

pub returns-in-Ok-clause-few : goal.returns-in-Ok-clause-few
returns-in-Ok-clause-few c = (conds_of_text_fit c.args.columns.now c.as_bytes.result.now c.in-Ok.conds c.in-Ok.ensures.found).1

pub returns-in-Err-clause-none : goal.returns-in-Err-clause-none
returns-in-Err-clause-none c = rw (c.within.ensures.rule, ← c.as_bytes.ensures.value) c.in-Err.ensures.none

pub returns-in-Err-clause-rule : goal.returns-in-Err-clause-rule
returns-in-Err-clause-rule c = rw (c.within.ensures.rule, ← c.as_bytes.ensures.value) c.in-Err.ensures.rule
