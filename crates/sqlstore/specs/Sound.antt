-- When the rows of a site are as its store leaves them.
use Rattle.std.specs.Prelude.{◌≡◌, ◌⊎◌, ℕ, ℤ, pos, ◌≤ℤ◌, List, [], IsSome, Ok}
use Rattle.sqlite.specs.Effect.{Database}
use Rattle.sqlite.specs.Order.{Row}
use Rattle.sqlite_rules.specs.Lists.{Has}
use Rattle.terms.specs.declared.leaf.Leaf.{Leaf}
use Rattle.terms.specs.declared.value.Value.{Value}
use Rattle.terms.specs.Row.{key_of}
use Rattle.terms.specs.Stored.{part_from}
use Rattle.sqlstore.specs.Cells.{text_at, int_at}
use Rattle.sqlstore.specs.Content.{leaf_named}
use Rattle.sqlstore.specs.Rows.{AreTables}

-- a body spells a part with this key
pub record SpellsAt (body : List ℕ) (key : ℤ) : Type 0 where
  pub part : List Value
  pub spelled : part_from body ≡ Ok part
  pub keyed : key_of part ≡ key

-- a part stands under a leaf of the site, and under its own key
pub record IsPart (leaves : List Leaf) (row : Row) : Type 0 where
  pub named : IsSome (leaf_named leaves (text_at row 1))
  pub spells : SpellsAt (text_at row 3) (int_at row 2)

-- so does an intent, but that its body may be empty
pub record IsIntent (leaves : List Leaf) (row : Row) : Type 0 where
  pub named : IsSome (leaf_named leaves (text_at row 3))
  pub spells : (text_at row 5 ≡ []) ⊎ SpellsAt (text_at row 5) (int_at row 4)

-- two rows are of one ticket
pub record AreOfOne (one other : Row) : Type 0 where
  pub life : int_at one 1 ≡ int_at other 1
  pub visit : int_at one 2 ≡ int_at other 2

-- no number of a prepared row is below zero
pub record IsNumbered (row : Row) : Type 0 where
  pub life : pos 0 ≤ℤ int_at row 1
  pub visit : pos 0 ≤ℤ int_at row 2
  pub txn_life : pos 0 ≤ℤ int_at row 3
  pub txn_number : pos 0 ≤ℤ int_at row 4

-- the tables of a site are as its store leaves them
pub record IsStored (leaves : List Leaf) (db : Database) : Type 0 where
  pub tables : AreTables db
  pub parts : (row : Row) → Has (db.trees 0) row → IsPart leaves row
  pub intents : (row : Row) → Has (db.trees 4) row → IsIntent leaves row
  pub prepared : (row : Row) → Has (db.trees 2) row → IsNumbered row
  -- each prepared row has an intent, and each intent its prepared row
  pub intended : (row : Row) → Has (db.trees 2) row → (intent : Row) × Has (db.trees 4) intent × AreOfOne row intent
  pub promised : (intent : Row) → Has (db.trees 4) intent → (row : Row) × Has (db.trees 2) row × AreOfOne row intent
  -- no incarnation is below zero
  pub begun : (row : Row) → Has (db.trees 6) row → pos 0 ≤ℤ int_at row 2
