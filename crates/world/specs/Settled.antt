-- What sites keep of leaves, and the settled fragments: kept, with the intentions of decided transactions.
use Rattle.std.specs.Prelude.{◌≡◌, ℕ, List, [], map, length, is_some, Option, Some, true}
use Rattle.std.specs.List.{AllByRecursion}
use Rattle.std.specs.FinMap as fin
use Rattle.std.specs.Option.{option_map}
use Rattle.terms.specs.declared.leaf.Leaf.{Leaf}
use Rattle.terms.specs.declared.value.Value.{Value}
use Rattle.meaning.specs.declared.schema.RelationSchema.{RelationSchema}
use Rattle.meaning.specs.declared.statement.Select.{Select}
use Rattle.meaning.specs.declared.statement.Statement.{Statement}
use Rattle.meaning.specs.Schema.{names_of, relation_named}
use Rattle.meaning.specs.Whole.{Relations, rows_of}
use Rattle.catalog.specs.Catalogue.{Catalogue}
use Rattle.plan.specs.declared.fetch.Fetch.{Fetch}
use Rattle.plan.specs.Need.{places_to}
use Rattle.answers.specs.FetchRows.{FetchRows}
use Rattle.store.specs.declared.name.Txn.{Txn}
use Rattle.store.specs.Content.{Content, parts}
use Rattle.protocol.specs.Desk.{Deed}
use Rattle.protocol.specs.Catalogues.{stated}
use Rattle.protocol.specs.Local.{local}
use Rattle.protocol.specs.Serial.{committed, settled}
use Rattle.site.specs.Settled.{is_among, with_all}
use Rattle.desk.specs.Database.{Database, language, statements}
use Rattle.desk.specs.CatalogueDatabase.{content_at, found}
use Rattle.desk.specs.Place.{Place, home_in, placed_in, site_in}
use Rattle.desk.specs.State.{VolatileState}
use Rattle.desk.specs.Acknowledge.{kept_voters}
use Rattle.world.specs.declared.event.Entry.{Entry}
use Rattle.world.specs.Machines.{Machines, world_of}
use Rattle.world.specs.Runs.{AreTexts, relations_after}
use Rattle.world.specs.Sites.{IsSeated, Seat, seat_of, states_of}
use Rattle.world.specs.Replies.{committed_in, texts_of}

-- what a site has of a leaf, with the intentions of those prepared rows whose transactions are these
abbrev pub settled_in : List Txn → Leaf → Seat → Content
settled_in decided leaf seat = with_all decided leaf seat.kept.prepared seat.table.tickets (seat.kept.content leaf)

-- so at the site of a name, if there is one
abbrev pub settled_at : List Txn → Leaf → List Seat → List ℕ → Option Content
settled_at decided leaf seats place = option_map (settled_in decided leaf) (seat_of place seats)

-- these are the transactions that have a commit row
abbrev pub AreDecided : VolatileState → List Txn → Type 0
AreDecided table decided = (txn : Txn) → is_among decided txn ≡ is_some (kept_voters (table.standing txn))

-- what is in memory of commit rows is what is kept of them
abbrev pub KnowsRows : Machines → Type 0
KnowsRows machines = (txn : Txn) → kept_voters (machines.table.standing txn) ≡ machines.desk.commits txn

-- the sites of the machines are those that a catalogue names, and what is in memory fits what is kept
pub record HasSitesOf (catalogue : Catalogue) (machines : Machines) : Type 0 where
  pub names : map (λ seat. seat.name) machines.seats ≡ catalogue.sites
  pub seated : AllByRecursion IsSeated machines.seats
  pub rows : KnowsRows machines

-- at its site each leaf of a catalogue has the parts that it has of this whole database, with the intentions of decided transactions
abbrev pub SettlesTo : Catalogue → Machines → Relations → Type 0
SettlesTo catalogue machines whole = (decided : List Txn) (leaf : Leaf) (parts : Content) → AreDecided machines.table decided → is_some (found catalogue leaf) ≡ true → settled_at decided leaf machines.seats (home_in catalogue leaf) ≡ Some parts
    → fin.values parts ≡ fin.values (content_at catalogue (placed_in catalogue leaf) whole)

-- the parts that are kept of a leaf at its site in the catalogue in force, by key; none of a leaf that it doesn't have
abbrev pub parts_kept : Database → Machines → Leaf → Option (List (List Value))
parts_kept db machines leaf = option_map (λ site. fin.values ((states_of (statements db) machines.seats site).kept (site, leaf))) (site_in (db.catalogue machines.table.version) leaf)

-- under the catalogue in force the settled fragments are those of this whole database, and there is nothing at any other place
abbrev pub AreThoseOf : Database → Machines → Relations → Type 0
AreThoseOf db machines whole = (place : Place) → settled (world_of db machines [] []) place ≡ db.content machines.table.version place whole

-- what a fetch brings of a whole database under a catalogue
abbrev pub brought_of : Catalogue → Relations → Fetch → FetchRows
brought_of catalogue whole fetch = record { leaf = fetch.leaf; parts = parts fetch.conds (content_at catalogue (placed_in catalogue fetch.leaf) whole) }

-- the SELECT of all columns of a relation
abbrev pub everything : RelationSchema → Select
everything relation = record { from = record { name = relation.name; columns = names_of relation }; joins = []; columns = places_to (length relation.columns); conds = [] }

-- the rows of a relation of the database, by key; none of a relation that there isn't
abbrev pub rows_shown : Database → Relations → List ℕ → Option (List (List Value))
rows_shown db whole name = option_map (λ relation. rows_of whole name) (relation_named name db.schemas)

-- the whole database after the committed transactions, one after another; whole: the one at the opening
abbrev pub after_committed : (db : Database) → List (Deed (language db)) → Relations → Relations
after_committed db past whole = relations_after db (map (stated local (statements db) past) (committed past)) whole

-- rows are those of a relation after the committed transactions, one after another over whole relations; statements: those of the texts that they stated
pub record ShowsSerial (db : Database) (whole : Relations) (entries : List Entry) (name : List ℕ) (shown : Option (List (List Value))) : Type 0 where
  pub statements : Txn → List Statement
  pub spelled : (txn : Txn) → AreTexts db (texts_of entries txn) (statements txn)
  pub rows : shown ≡ rows_shown db (relations_after db (map statements (committed_in entries)) whole) name
