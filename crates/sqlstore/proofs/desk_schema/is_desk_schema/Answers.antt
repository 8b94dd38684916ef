use Rattle.std.proofs.Common.{rules}
use Rattle.sqlstore.proofs.DeskOurs.{desk_schema_decided, desk_views_none, desk_indexes_same}
use Rattle.sqlstore.proofs.desk_schema.is_desk_schema.Goals as goal

pub returns-then-not-is_empty : goal.returns-then-not-is_empty
returns-then-not-is_empty c = search (rules, desk_views_none)

pub returns-then-not-are_desk_indexes : goal.returns-then-not-are_desk_indexes
returns-then-not-are_desk_indexes c = search (rules, desk_indexes_same)

pub returns : goal.returns
returns c = search (rules, desk_schema_decided c.args.schema.now c.are_desk_tables.result)
