-- The tables of the coordinator: their columns and their texts.
use Rattle.std.specs.Prelude.{ℕ, pos, false, List, [], ◌∷◌, None, Some, codes}
use Rattle.sqlite.specs.Change.{created}
use Rattle.sqlite.specs.Collation.TheVariants.{Binary}
use Rattle.sqlite.specs.Kind.TheVariants.{Integer, Text}
use Rattle.sqlite.specs.Schema.{Schema}
use Rattle.sqlite.specs.Table.{Table}
use Rattle.sqlite.specs.Term.{lit, col, op2}
use Rattle.sqlite.specs.declared.types.Value.TheVariants.{Int}
use Rattle.sqlite_sql.specs.declared.ops.BinaryOp.TheVariants.{Compare}
use Rattle.sqlite_sql.specs.declared.ops.CompareOp.TheVariants.{Eq}
use Rattle.sqlstore.specs.Tables.{column_of, no_stamps, no_schema}

-- the sites that voted for a transaction that is committed, each with the ticket of its visit
abbrev pub decided_table : Table
decided_table = record {
  name = codes "decided";
  tree = 0;
  columns = column_of (codes "tlife") Integer ∷ column_of (codes "tnumber") Integer ∷ column_of (codes "site") Text ∷ column_of (codes "life") Integer ∷ column_of (codes "visit") Integer ∷ [];
  key = None;
  primary = 1 ∷ 2 ∷ 3 ∷ [];
  uniques = (1 ∷ 2 ∷ 3 ∷ []) ∷ [];
  orders = record { digits = 0 } ∷ [];
  checks = [];
  references = [];
  computed = [];
  stamps = no_stamps;
  is_counted = false;
}

-- the incarnation and the catalogue's version, in at most one row
abbrev pub epoch_table : Table
epoch_table = record {
  name = codes "state";
  tree = 0;
  columns = column_of (codes "one") Integer ∷ column_of (codes "life") Integer ∷ column_of (codes "version") Integer ∷ [];
  key = Some 0;
  primary = 0 ∷ [];
  uniques = [];
  orders = [];
  checks = op2 (Compare Eq Binary) (col 1 0) (lit (Int (pos 1))) ∷ [];
  references = [];
  computed = [];
  stamps = no_stamps;
  is_counted = false;
}

-- the two tables, whose rows stand in the trees 0 and 2
abbrev pub desk_schema : Schema
desk_schema = created (created no_schema decided_table) epoch_table

abbrev pub create_decided : List ℕ
create_decided =
    codes "CREATE TABLE decided (tlife INTEGER NOT NULL, tnumber INTEGER NOT NULL, site TEXT NOT NULL, life INTEGER NOT NULL, visit INTEGER NOT NULL, PRIMARY KEY (tlife, tnumber, site)) STRICT"

abbrev pub create_epoch : List ℕ
create_epoch = codes "CREATE TABLE state (one INTEGER NOT NULL PRIMARY KEY CHECK (one = 1), life INTEGER NOT NULL, version INTEGER NOT NULL) STRICT"
