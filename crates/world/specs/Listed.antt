-- Machines over a list of catalogues, of which another one may come into force: when they are fit, and their steps.
use Rattle.std.specs.Prelude.{◌≡◌, ℕ, Bool, false, true, List, [], ◌∷◌, ◌++◌, map, None}
use Rattle.std.specs.List.{AllByRecursion, filter_map, list_any}
use Rattle.std.specs.Ordering.{is_eq}
use Rattle.terms.specs.declared.leaf.Leaf.{Leaf}
use Rattle.terms.specs.Leaf.{leaf_cmp}
use Rattle.meaning.specs.declared.statement.Refragment.{Refragment}
use Rattle.meaning.specs.declared.statement.Statement.{Statement}
use Rattle.meaning.specs.declared.statement.Statement.TheVariants as kinds
use Rattle.reader.specs.declared.command.Command.TheVariants as command
use Rattle.reader.specs.Command.{IsTextOf}
use Rattle.store.specs.declared.letter.Letter as letters
use Rattle.store.specs.declared.name.Txn.{Txn}
use Rattle.protocol.specs.Catalogues.{IsLawfulList}
use Rattle.protocol.specs.Desk.{Began, Choice, Deed, Request, State, began_as, desk_after, desk_began, is_desk_within, is_moving, next_txn, on_request, refusal}
use Rattle.protocol.specs.Language.{Name}
use Rattle.protocol.specs.Letter.{Letter}
use Rattle.protocol.specs.Letters.{txn_name}
use Rattle.protocol.specs.Local.{local}
use Rattle.protocol.specs.Serial.{AllExplained}
use Rattle.protocol.specs.StatementCourse.{passes}
use Rattle.protocol.specs.World.{World, begins, called, comes, first_turn, may_ask, may_begin, may_move, refragments}
use Rattle.desk.specs.declared.desk.Desk.{Desk}
use Rattle.desk.specs.declared.reply.Notice.{Notice}
use Rattle.desk.specs.CatalogueDatabase.{IsBase}
use Rattle.desk.specs.Database.{Database, IsOrdinary, IsPlace, language, sent, statements}
use Rattle.desk.specs.OfCatalogue.{AreNextOf, InForce}
use Rattle.desk.specs.Request.{txn_in}
use Rattle.desk.specs.State.{Fits, desk_of, notice_of}
use Rattle.desk.specs.Transition.{told}
use Rattle.world.specs.Machines.{AreOfPlaces, Machines, world_of}
use Rattle.world.specs.Sites.{IsSeated}

-- a database has what its catalogues say, and their list is lawful
pub record IsListed (db : Database) : Type 0 where
  pub base : IsBase db
  pub lawful : IsLawfulList local (statements db)

-- the catalogue in force is the one that the database has under the number of it, and so are those that come later under the numbers behind it
pub record StandsIn {D : Type 0} (db : Database) (desk : Desk D) : Type 0 where
  pub here : InForce db desk.volatile.version desk.catalog
  pub next : AreNextOf db desk.volatile.version desk.later.items

-- what is in memory fits what the stores keep, and the sites are those of the database, each with the leaves that some catalogue puts there; where no catalogue
-- comes later, no transaction gives a relation another split
pub record FitsList (db : Database) (machines : Machines) : Type 0 where
  pub names : map (λ seat. seat.name) machines.seats ≡ db.sites
  pub leaves : AllByRecursion (λ seat. (leaf : Leaf) → IsPlace db (seat.name, leaf) → list_any (λ other. is_eq (leaf_cmp leaf other)) seat.leaves ≡ true) machines.seats
  pub desk : Fits db machines.desk machines.table
  pub within : is_desk_within (desk_of db machines.table) ≡ true
  pub sites : AllByRecursion IsSeated machines.seats
  pub still : machines.later ≡ [] → (t : Name) → is_moving ((desk_of db machines.table).txn t) ≡ false

-- a step of the machines is one of the protocol's world, whatever letters wait and whatever happened before: these letters are put out, their operations of leaves
-- at their sites, deeds are done, among them no statement that isn't explained, and clients hear of them
pub record ListLeads (db : Database) (step : World (language db) → World (language db)) (before after : Machines) (out : List letters.Letter) (notices : List Notice) : Type 0 where
  pub deeds : List (Deed (language db))
  pub fit : FitsList db after
  pub is : (waiting : List (Letter (language db))) (past : List (Deed (language db))) → step (world_of db before waiting past) ≡ world_of db after (waiting ++ map (sent db) out) (past ++ deeds)
  pub placed : AreOfPlaces db out
  pub explained : AllExplained deeds
  pub replies : map notice_of notices ≡ filter_map (told db) deeds

-- a transaction begins, within the limits, where none gives a relation another split
pub record ListBegun (db : Database) (before after : Machines) (out : List letters.Letter) (notices : List Notice) : Type 0 where
  pub leads : ListLeads db begins before after out notices
  pub may : may_begin (world_of db before [] []) ≡ true
  pub within : is_desk_within (desk_began (desk_of db before.table)) ≡ true

-- a relation gets the split of the next catalogue: a transaction of its own begins and states that, within the limits, where nothing else stands
pub record ListMoved (db : Database) (text : List ℕ) (before after : Machines) (out : List letters.Letter) (notices : List Notice) : Type 0 where
  pub refragment : Refragment
  pub choice : Choice (language db)
  pub spelled : IsTextOf db.schemas text (command.Run (kinds.Refragment refragment))
  pub leads : ListLeads db (λ w. refragments w (before.table.version, kinds.Refragment refragment) choice) before after out notices
  pub may : may_move (world_of db before [] []) (before.table.version, kinds.Refragment refragment) ≡ true
  pub begun_within : is_desk_within (began_as true (desk_of db before.table)) ≡ true
  pub within : is_desk_within (desk_after (began_as true (desk_of db before.table)) (next_txn (desk_of db before.table)) (first_turn (world_of db before [] []) (before.table.version, kinds.Refragment refragment) choice).txn) ≡ true
  pub all : leads.deeds ≡ Began (next_txn (desk_of db before.table)) ∷ (first_turn (world_of db before [] []) (before.table.version, kinds.Refragment refragment) choice).deeds

-- what a client asks for may be asked for, is accepted, within the limits, and done
pub record ListAsked (db : Database) (txn : Txn) (choice : Choice (language db)) (request : Request (language db)) (before after : Machines) (out : List letters.Letter) (notices : List Notice) : Type 0 where
  pub leads : ListLeads db (λ w. called w (txn_name txn) choice request) before after out notices
  pub may : may_ask (world_of db before [] []) (txn_name txn) request ≡ true
  pub accepted : refusal request (txn_in db before.table txn) ≡ None
  pub within : is_desk_within (desk_after (desk_of db before.table) (txn_name txn) (on_request (txn_name txn) choice request (txn_in db before.table txn)).txn) ≡ true
  pub all : leads.deeds ≡ (on_request (txn_name txn) choice request (txn_in db before.table txn)).deeds

-- a statement of a transaction is stated, for the catalogue in force: the text is its text, and it is one over the relations of the database
pub record ListStated (db : Database) (txn : Txn) (text : List ℕ) (before after : Machines) (out : List letters.Letter) (notices : List Notice) : Type 0 where
  pub statement : Statement
  pub choice : Choice (language db)
  pub spelled : IsTextOf db.schemas text (command.Run statement)
  pub fits : IsOrdinary db statement
  pub asked : ListAsked db txn choice (State (before.table.version, statement)) before after out notices

-- a letter comes to the machine that it is for, and its step is within the limits; kept: whether the store call that it makes is kept
pub record ListCame (db : Database) (letter : letters.Letter) (kept : Bool) (before after : Machines) (out : List letters.Letter) (notices : List Notice) : Type 0 where
  pub choice : Choice (language db)
  pub within : passes (world_of db before [] []) kept choice (sent db letter) ≡ true
  pub leads : ListLeads db (λ w. comes w kept choice (sent db letter)) before after out notices
