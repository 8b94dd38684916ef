use Rattle.std.proofs.Common.{◌∙◌}
use Rattle.std.specs.FinMap as fin
use Rattle.sqlstore.proofs.Backward.{prepared_put}
use Rattle.sqlstore.proofs.prepared_rows.put_prepared.Goals as goal

pub returns-in-Ok-clause-ok : goal.returns-in-Ok-clause-ok
returns-in-Ok-clause-ok c other =
    let names = c.in-Some.ensures in
    c.in-Ok.ensures.updates.0 other ∙ prepared_put c.args.row.now c.in-Some.ticket other c.in-Some.txn c.new-changes.result fin.empty _ names.1 names.2 c.new-changes.ensures
