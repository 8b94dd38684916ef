-- Why `refragment_of` meets its contract.
use Rattle.desk.proofs.Unread.{split_fits, split_spelled, split_told, unread_split}
use Rattle.desk.proofs.refragment.refragment_of.Goals as goal

pub returns-in-Ok-clause-spelled : goal.returns-in-Ok-clause-spelled
returns-in-Ok-clause-spelled c = split_spelled _ _ c.schema.ensures.schemas c.args.text.now c.in-Ok.command c.refragment_by.result c.in-Ok.ensures.found c.refragment_by.ensures.run

pub returns-in-Ok-clause-fits : goal.returns-in-Ok-clause-fits
returns-in-Ok-clause-fits c = split_fits _ _ c.schema.ensures.schemas c.in-Ok.command c.refragment_by.result c.in-Ok.ensures.fits c.refragment_by.ensures.run

pub returns-in-Ok-clause-told : goal.returns-in-Ok-clause-told
returns-in-Ok-clause-told c = split_told _ _ c.schema.ensures.schemas c.args.text.now c.in-Ok.command c.refragment_by.result c.in-Ok.ensures.found c.refragment_by.ensures.none

pub returns-in-Err-clause-told : goal.returns-in-Err-clause-told
returns-in-Err-clause-told c = unread_split _ _ c.schema.ensures.schemas c.args.text.now c.in-Err.fault c.reader_refusal.result c.reader_refusal.ensures c.in-Err.ensures.none c.in-Err.ensures.rule
