-- When the rows of the coordinator are as its store leaves them.
use Rattle.std.specs.Prelude.{pos, ◌≤ℤ◌}
use Rattle.std.specs.Str.{IsUtf8}
use Rattle.sqlite.specs.Effect.{Database}
use Rattle.sqlite.specs.Order.{Row}
use Rattle.sqlite_rules.specs.Lists.{Has}
use Rattle.sqlstore.specs.Cells.{text_at, int_at}
use Rattle.sqlstore.specs.DeskTables.{desk_schema}
use Rattle.sqlstore.specs.Rows.{AreTablesOf}

-- no number of a voter's row is below zero
pub record HasNames (row : Row) : Type 0 where
  pub txn_life : pos 0 ≤ℤ int_at row 1
  pub txn_number : pos 0 ≤ℤ int_at row 2
  pub life : pos 0 ≤ℤ int_at row 4
  pub visit : pos 0 ≤ℤ int_at row 5

-- and the site's name is a text
pub record IsVote (row : Row) : Type 0 where
  pub names : HasNames row
  pub site : IsUtf8 (text_at row 3)

-- neither the incarnation nor the version is below zero
pub record IsEpoch (row : Row) : Type 0 where
  pub life : pos 0 ≤ℤ int_at row 2
  pub version : pos 0 ≤ℤ int_at row 3

-- the tables of the coordinator are as its store leaves them
pub record IsDecided (db : Database) : Type 0 where
  pub tables : AreTablesOf desk_schema db
  pub votes : (row : Row) → Has (db.trees 0) row → IsVote row
  pub epoch : (row : Row) → Has (db.trees 2) row → IsEpoch row
