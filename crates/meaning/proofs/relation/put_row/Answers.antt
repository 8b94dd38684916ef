-- Why `relation::put_row` meets its contract.
use Rattle.meaning.proofs.Rows.{Ascends-insert}
use Rattle.meaning.proofs.relation.put_row.Goals as goal

pub returns-in_ok-insert-in-Err-clause-ascends : goal.returns-in_ok-insert-in-Err-clause-ascends
returns-in_ok-insert-in-Err-clause-ascends c =
    Ascends-insert c.as_slice.result.now c.args.rows.now.items c.insert.new.self.items c.args.row c.in-Err.place c.as_slice.ensures.value c.in-Err.ensures.absent c.in-Err.ensures.place c.in_ok-insert-in-Err.ensures.items c.requires
