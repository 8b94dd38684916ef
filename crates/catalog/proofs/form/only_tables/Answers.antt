use Rattle.catalog.proofs.Nodes.{tables_of, no_tables_of}
use Rattle.catalog.proofs.form.only_tables.Goals as goal

pub returns-then-are_tables : goal.returns-then-are_tables
returns-then-are_tables c = tables_of c.args.items.now c.are_tables.result c.are_tables.ensures c.if-are_tables.true

pub returns-else-are_tables : goal.returns-else-are_tables
returns-else-are_tables c = no_tables_of c.args.items.now c.are_tables.result c.are_tables.ensures c.if-are_tables.false
