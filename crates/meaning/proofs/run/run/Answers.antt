-- Why `run::run` meets its contract.
use Rattle.meaning.specs.declared.statement.Statement.TheVariants as statement
use Rattle.meaning.proofs.Kept.{run_fits}
use Rattle.meaning.proofs.run.run.Goals as goal

pub returns-in-Insert-clause-fits : goal.returns-in-Insert-clause-fits
returns-in-Insert-clause-fits c = λ schema is fits.
    run_fits c.run_insert.result (statement.Insert c.in-Insert.insert) c.args.whole.now c.run_insert.new.whole c.run_insert.ensures.whole c.run_insert.ensures.err schema (rw c.in-Insert.is at is) fits

pub returns-in-Update-clause-fits : goal.returns-in-Update-clause-fits
returns-in-Update-clause-fits c = λ schema is fits.
    run_fits c.run_update.result (statement.Update c.in-Update.update) c.args.whole.now c.run_update.new.whole c.run_update.ensures.whole c.run_update.ensures.err schema (rw c.in-Update.is at is) fits

pub returns-in-Delete-clause-fits : goal.returns-in-Delete-clause-fits
returns-in-Delete-clause-fits c = λ schema is fits.
    run_fits c.run_delete.result (statement.Delete c.in-Delete.delete) c.args.whole.now c.run_delete.new.whole c.run_delete.ensures.whole c.run_delete.ensures.err schema (rw c.in-Delete.is at is) fits
