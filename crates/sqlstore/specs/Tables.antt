-- The tables of a site: their columns and their texts.
use Rattle.std.specs.Prelude.{ℕ, pos, true, false, List, [], ◌∷◌, None, Some, codes}
use Rattle.sqlite.specs.Change.{created}
use Rattle.sqlite.specs.Collation.TheVariants.{Binary}
use Rattle.sqlite.specs.Kind.{Kind}
use Rattle.sqlite.specs.Kind.TheVariants.{Integer, Text, Blob}
use Rattle.sqlite.specs.Schema.{Schema}
use Rattle.sqlite.specs.Table.{Table}
use Rattle.sqlite.specs.Term.{lit, col, op2}
use Rattle.sqlite.specs.declared.types.Value.TheVariants.{Null, Int}
use Rattle.sqlite_sql.specs.declared.ops.BinaryOp.TheVariants.{Compare}
use Rattle.sqlite_sql.specs.declared.ops.CompareOp.TheVariants.{Eq}
use Rattle.sqlite_schema.specs.declared.schema.Column.{Column}
use Rattle.sqlite_schema.specs.declared.schema.Stamps.{Stamps}

-- a column of a STRICT table that is never NULL
abbrev pub column_of : List ℕ → Kind → Column
column_of name kind = record { name = name; kind = kind; is_strict = true; not_null = true; default = Null; collation = Binary }

abbrev pub no_stamps : Stamps
no_stamps = record { places = []; terms = []; formats = [] }

-- the parts of each leaf, by key
abbrev pub part_table : Table
part_table = record {
  name = codes "part";
  tree = 0;
  columns = column_of (codes "leaf") Text ∷ column_of (codes "id") Integer ∷ column_of (codes "body") Blob ∷ [];
  key = None;
  primary = 1 ∷ 2 ∷ [];
  uniques = (1 ∷ 2 ∷ []) ∷ [];
  orders = record { digits = 0 } ∷ [];
  checks = [];
  references = [];
  computed = [];
  stamps = no_stamps;
  is_counted = false;
}

-- the tickets that are prepared, each with its transaction
abbrev pub prepared_table : Table
prepared_table = record {
  name = codes "prepared";
  tree = 0;
  columns = column_of (codes "life") Integer ∷ column_of (codes "visit") Integer ∷ column_of (codes "tlife") Integer ∷ column_of (codes "tnumber") Integer ∷ [];
  key = None;
  primary = 1 ∷ 2 ∷ [];
  uniques = (1 ∷ 2 ∷ []) ∷ [];
  orders = record { digits = 0 } ∷ [];
  checks = [];
  references = [];
  computed = [];
  stamps = no_stamps;
  is_counted = false;
}

-- what each of these tickets changes: a part, or an empty body where it is to go
abbrev pub intent_table : Table
intent_table = record {
  name = codes "intent";
  tree = 0;
  columns = column_of (codes "life") Integer ∷ column_of (codes "visit") Integer ∷ column_of (codes "leaf") Text ∷ column_of (codes "id") Integer ∷ column_of (codes "body") Blob ∷ [];
  key = None;
  primary = 1 ∷ 2 ∷ 3 ∷ 4 ∷ [];
  uniques = (1 ∷ 2 ∷ 3 ∷ 4 ∷ []) ∷ [];
  orders = record { digits = 0 } ∷ [];
  checks = [];
  references = [];
  computed = [];
  stamps = no_stamps;
  is_counted = false;
}

-- the incarnation, in at most one row
abbrev pub state_table : Table
state_table = record {
  name = codes "state";
  tree = 0;
  columns = column_of (codes "one") Integer ∷ column_of (codes "life") Integer ∷ [];
  key = Some 0;
  primary = 0 ∷ [];
  uniques = [];
  orders = [];
  checks = op2 (Compare Eq Binary) (col 1 0) (lit (Int (pos 1))) ∷ [];
  references = [];
  computed = [];
  stamps = no_stamps;
  is_counted = false;
}

abbrev pub no_schema : Schema
no_schema = record { tables = []; indexes = []; views = [] }

-- the four tables, whose rows stand in the trees 0, 2, 4 and 6
abbrev pub site_schema : Schema
site_schema = created (created (created (created no_schema part_table) prepared_table) intent_table) state_table

abbrev pub create_part : List ℕ
create_part = codes "CREATE TABLE part (leaf TEXT NOT NULL, id INTEGER NOT NULL, body BLOB NOT NULL, PRIMARY KEY (leaf, id)) STRICT"

abbrev pub create_prepared : List ℕ
create_prepared = codes "CREATE TABLE prepared (life INTEGER NOT NULL, visit INTEGER NOT NULL, tlife INTEGER NOT NULL, tnumber INTEGER NOT NULL, PRIMARY KEY (life, visit)) STRICT"

abbrev pub create_intent : List ℕ
create_intent = codes "CREATE TABLE intent (life INTEGER NOT NULL, visit INTEGER NOT NULL, leaf TEXT NOT NULL, id INTEGER NOT NULL, body BLOB NOT NULL, PRIMARY KEY (life, visit, leaf, id)) STRICT"

abbrev pub create_state : List ℕ
create_state = codes "CREATE TABLE state (one INTEGER NOT NULL PRIMARY KEY CHECK (one = 1), life INTEGER NOT NULL) STRICT"
