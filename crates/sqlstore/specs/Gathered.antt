-- All rows of a site's tables, as queries show them.
use Rattle.std.specs.Prelude.{◌≡◌, ◌≢◌, pos, ◌≤ℤ◌, true, Option, IsSome, if◌then◌else◌, List, [], ◌∷◌, slice_index_or}
use Rattle.std.specs.FinMap as map
use Rattle.std.specs.List.{AllByRecursion}
use Rattle.std.specs.Option.{option_map}
use Rattle.std.specs.List.Sorted.{IsSorted}
use Rattle.sqlite.specs.Effect.{Database}
use Rattle.sqlite.specs.Order.{Row, value_cmp}
use Rattle.sqlite.specs.Term.{Term, lit, col}
use Rattle.sqlite.specs.Tree.{rowid}
use Rattle.sqlite.specs.declared.types.Value.TheVariants.{Null}
use Rattle.sqlite_rules.specs.Lists.{Has}
use Rattle.sqlstore.specs.declared.gathered.Gathered.{Gathered}
use Rattle.store.specs.declared.name.Ticket.{Ticket}
use Rattle.store.specs.declared.prepared.Prepared.{Prepared}
use Rattle.store.specs.declared.prepared.PreparedRow.{PreparedRow}
use Rattle.terms.specs.declared.leaf.Leaf.{Leaf}
use Rattle.sqlstore.specs.Cells.{int_at, text_at}
use Rattle.sqlstore.specs.Content.{is_of, leaf_named, with_intent}
use Rattle.sqlstore.specs.Numbered.{AreNumbered}
use Rattle.sqlstore.specs.Sound.{AreOfOne}
use Rattle.sqlstore.specs.Tables.{site_schema}

-- the columns of a prepared row, of an intent and of an incarnation, in the places that their tables have them
abbrev pub prepared_terms : List Term
prepared_terms = col 1 0 ∷ col 1 1 ∷ col 1 2 ∷ col 1 3 ∷ col 1 4 ∷ []

abbrev pub intent_terms : List Term
intent_terms = col 1 0 ∷ col 1 1 ∷ col 1 2 ∷ col 1 3 ∷ col 1 4 ∷ col 1 5 ∷ []

abbrev pub state_terms : List Term
state_terms = col 1 0 ∷ lit Null ∷ col 1 2 ∷ []

-- all rows of a table and no others, in the order of their numbers
pub record ShowsAll (rows found : List Row) : Type 0 where
  pub sound : (row : Row) → Has found row → Has rows row
  pub all : (row : Row) → Has rows row → Has found row
  pub rises : IsSorted (λ one other. value_cmp (rowid one) (rowid other)) found

-- so of each table but that of parts
pub record ShowsTables (db : Database) (tables : Gathered) : Type 0 where
  pub prepared : ShowsAll (db.trees 2) tables.prepared.items
  pub intents : ShowsAll (db.trees 4) tables.intents.items
  pub state : ShowsAll (db.trees 6) tables.state.items

-- a site's database of these rows
abbrev pub gathered : List Row → Gathered → Database
gathered parts tables = record {
  schema = site_schema;
  trees = λ tree. slice_index_or (parts ∷ [] ∷ tables.prepared.items ∷ [] ∷ tables.intents.items ∷ [] ∷ tables.state.items ∷ []) tree [];
}

-- an intent has its prepared row among rows
abbrev pub IsPromised : List Row → Row → Type 0
IsPromised rows intent = (row : Row) × Has rows row × AreOfOne row intent

-- a prepared row with an intent more
abbrev pub with_more : List Leaf → Row → Prepared → Prepared
with_more leaves intent row = record row { changes = with_intent (leaf_named leaves (text_at intent 3)) (int_at intent 4) (text_at intent 5) row.changes }

-- what a ticket's row prepares, with an intent more where the intent is the ticket's
abbrev pub with_own : List Leaf → Row → Ticket → Option Prepared → Option Prepared
with_own leaves intent ticket found = if is_of ticket intent then option_map (with_more leaves intent) found else found

-- the ticket of an intent has a row
abbrev pub HasRow : (Ticket → Option Prepared) → Row → Type 0
HasRow found intent = (ticket : Ticket) × (is_of ticket intent ≡ true) × IsSome (found ticket)

-- a row changes something
abbrev pub HasChanges : PreparedRow → Type 0
HasChanges row = row.prepared.changes ≢ map.empty

-- no incarnation is below zero
abbrev pub AreBegun : List Row → Type 0
AreBegun rows = AllByRecursion (λ row. pos 0 ≤ℤ int_at row 2) rows

-- each row has a number of its own
pub record AreAllNumbered (tables : Gathered) : Type 0 where
  pub prepared : AreNumbered tables.prepared.items
  pub intents : AreNumbered tables.intents.items
  pub state : AreNumbered tables.state.items
