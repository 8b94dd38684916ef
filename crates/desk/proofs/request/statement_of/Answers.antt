-- Why `statement_of` meets its contract.
use Rattle.desk.proofs.Unread.{fits_by, run_told, spelled_by, unread_told}
use Rattle.desk.proofs.request.statement_of.Goals as goal

pub returns-in-Ok-clause-spelled : goal.returns-in-Ok-clause-spelled
returns-in-Ok-clause-spelled c = spelled_by _ _ c.schema.ensures.schemas c.args.text.now c.in-Ok.command c.run_by.result c.in-Ok.ensures.found c.run_by.ensures.run

pub returns-in-Ok-clause-fits : goal.returns-in-Ok-clause-fits
returns-in-Ok-clause-fits c = fits_by _ _ c.schema.ensures.schemas c.in-Ok.command c.run_by.result c.in-Ok.ensures.fits c.run_by.ensures.run

pub returns-in-Ok-clause-told : goal.returns-in-Ok-clause-told
returns-in-Ok-clause-told c = run_told _ _ c.schema.ensures.schemas c.args.text.now c.in-Ok.command c.run_by.result c.in-Ok.ensures.found c.run_by.ensures.none

pub returns-in-Err-clause-told : goal.returns-in-Err-clause-told
returns-in-Err-clause-told c = unread_told _ _ c.schema.ensures.schemas c.args.text.now c.in-Err.fault c.reader_refusal.result c.reader_refusal.ensures c.in-Err.ensures.none c.in-Err.ensures.rule
