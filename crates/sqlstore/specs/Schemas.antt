-- The parts of a site's schema.
use Rattle.std.specs.Prelude.{◌≡◌, ℕ, pos, true, false, List, [], ◌∷◌, None, Some, codes}
use Rattle.sqlite.specs.Collation.TheVariants.{Binary}
use Rattle.sqlite.specs.Table.{Table}
use Rattle.sqlite.specs.Term.{Term, lit, col, op2}
use Rattle.sqlite.specs.declared.types.Value.TheVariants.{Int}
use Rattle.sqlite_sql.specs.declared.ops.BinaryOp.TheVariants.{Compare}
use Rattle.sqlite_sql.specs.declared.ops.CompareOp.TheVariants.{Eq}
use Rattle.sqlite_schema.specs.declared.schema.Column.{Column}
use Rattle.sqlite_schema.specs.declared.schema.Index.{Index}
use Rattle.sqlstore.specs.Tables.{no_stamps}

-- that the first column of a row is 1
abbrev pub is_one : Term
is_one = op2 (Compare Eq Binary) (col 1 0) (lit (Int (pos 1)))

-- a table refers to no other, computes no column and doesn't count
pub record IsBare (table : Table) : Type 0 where
  pub references : table.references ≡ []
  pub computed : table.computed ≡ []
  pub stamps : table.stamps ≡ no_stamps
  pub uncounted : table.is_counted ≡ false

-- the one key of a table isn't its number
pub record IsKeyedBy (key : List ℕ) (table : Table) : Type 0 where
  pub number : table.key ≡ None
  pub primary : table.primary ≡ key
  pub uniques : table.uniques ≡ key ∷ []
  pub orders : table.orders ≡ record { digits = 0 } ∷ []

-- the number of a table is its key
pub record IsKeyedByNumber (table : Table) : Type 0 where
  pub number : table.key ≡ Some 0
  pub primary : table.primary ≡ 0 ∷ []
  pub uniques : table.uniques ≡ []
  pub orders : table.orders ≡ []

abbrev pub keyed_table : List ℕ → ℕ → List Column → List ℕ → Table
keyed_table name tree columns key = record {
  name = name;
  tree = tree;
  columns = columns;
  key = None;
  primary = key;
  uniques = key ∷ [];
  orders = record { digits = 0 } ∷ [];
  checks = [];
  references = [];
  computed = [];
  stamps = no_stamps;
  is_counted = false;
}

-- an index that keeps the keys of a table apart
abbrev pub index_of : List ℕ → ℕ → ℕ → List ℕ → Index
index_of name tree table columns = record { name = name; tree = tree; table = table; columns = columns; order = record { digits = 0 }; is_unique = true }

abbrev pub site_indexes : List Index
site_indexes =
    index_of (codes "sqlite_autoindex_part_1") 1 0 (1 ∷ 2 ∷ []) ∷ index_of (codes "sqlite_autoindex_prepared_1") 3 2 (1 ∷ 2 ∷ [])
    ∷ index_of (codes "sqlite_autoindex_intent_1") 5 4 (1 ∷ 2 ∷ 3 ∷ 4 ∷ []) ∷ []
