use Rattle.std.proofs.Common.{rules}
use Rattle.sqlstore.proofs.Ours.{schema_decided, views_none, indexes_same}
use Rattle.sqlstore.proofs.schema.is_site_schema.Goals as goal

pub returns-then-not-is_empty : goal.returns-then-not-is_empty
returns-then-not-is_empty c = search (rules, views_none)

pub returns-then-not-are_site_indexes : goal.returns-then-not-are_site_indexes
returns-then-not-are_site_indexes c = search (rules, indexes_same)

pub returns : goal.returns
returns c = search (rules, schema_decided c.args.schema.now c.are_site_tables.result)
