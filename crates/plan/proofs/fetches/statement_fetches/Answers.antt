-- Why `fetches::statement_fetches` meets its contract.
use Rattle.plan.proofs.fetches.statement_fetches.Goals as goal

pub needed_fetches-requires : goal.needed_fetches-requires
needed_fetches-requires c = record { statement = c.args.statement.now; are = c.in_ok-needs.ensures; of_schemas = c.requires }

pub returns : goal.returns
returns c = c.needed_fetches.ensures c.args.statement.now c.in_ok-needs.ensures c.requires
