-- The machines of a database together, as the protocol's world.
use Rattle.std.specs.Prelude.{◌≡◌, ⊤, ℕ, Bool, true, false, List, [], ◌++◌, map, None}
use Rattle.std.specs.List.{AllByRecursion, filter_map, list_any}
use Rattle.std.specs.Ordering.{is_eq}
use Rattle.terms.specs.declared.leaf.Leaf.{Leaf}
use Rattle.terms.specs.Leaf.{leaf_cmp}
use Rattle.meaning.specs.declared.statement.Statement.{Statement}
use Rattle.catalog.specs.declared.relation.SplitRelation.{SplitRelation}
use Rattle.meaning.specs.Statement.{is_refragment}
use Rattle.reader.specs.declared.command.Command.TheVariants as command
use Rattle.reader.specs.Command.{IsTextOf}
use Rattle.store.specs.declared.letter.Body as bodies
use Rattle.store.specs.declared.letter.Body.TheVariants as body
use Rattle.store.specs.declared.letter.Letter as letters
use Rattle.store.specs.declared.name.Txn.{Txn}
use Rattle.store.specs.DeskContent.{DeskContent}
use Rattle.protocol.specs.StatementCourse.{passes}
use Rattle.protocol.specs.Desk.{Choice, Commit_call, Deed, Give_up, Request, Rollback, State, desk_after, is_desk_within, on_request, refusal, is_moving}
use Rattle.protocol.specs.Home.{AreHomed}
use Rattle.protocol.specs.Language.{Name}
use Rattle.protocol.specs.Letter.{Letter}
use Rattle.protocol.specs.Serial.{AllExplained}
use Rattle.protocol.specs.Letters.{name_of, txn_name}
use Rattle.protocol.specs.World.{World, called, comes, gives_up, inquires, restarts}
use Rattle.desk.specs.declared.reply.Notice.{Notice}
use Rattle.desk.specs.Request.{txn_in}
use Rattle.desk.specs.Database.{Database, IsOrdinary, IsPlace, language, sent, statements}
use Rattle.desk.specs.State.{Fits, VolatileState, desk_of, notice_of}
use Rattle.desk.specs.Transition.{told}
use Rattle.world.specs.declared.sites.SiteAction as doing
use Rattle.world.specs.declared.sites.SiteAction.TheVariants.{GiveUp, Inquire, Restart, Take}
use Rattle.world.specs.Sites.{IsSeated, Seat, states_of}

-- the coordinator, by what its store keeps and what it has in memory, and the sites. later: the catalogues that come after the one in force; refused: how often the medium of each store has
-- refused, the coordinator's first; none where that isn't counted
pub record Machines : Type 0 where
  pub desk : DeskContent
  pub table : VolatileState
  pub seats : List Seat
  pub later : List (List (List ℕ) × List SplitRelation)
  pub refused : List ℕ

-- the world of the machines, with the catalogue in force whose number the coordinator's store keeps; letters: those that wait, or all that were sent, past: what happened to transactions
abbrev pub world_of : (db : Database) → Machines → List (Letter (language db)) → List (Deed (language db)) → World (language db)
world_of db machines letters past = record { desk = desk_of db machines.table; sites = states_of (statements db) machines.seats; letters = letters; past = past; version = machines.table.version }

-- what is in memory fits what the stores keep, and the sites are those of the database, each with the leaves that some catalogue puts there; no catalogue comes
-- after the one in force
pub record AreFit (db : Database) (machines : Machines) : Type 0 where
  pub names : map (λ seat. seat.name) machines.seats ≡ db.sites
  pub leaves : AllByRecursion (λ seat. (leaf : Leaf) → IsPlace db (seat.name, leaf) → list_any (λ other. is_eq (leaf_cmp leaf other)) seat.leaves ≡ true) machines.seats
  pub desk : Fits db machines.desk machines.table
  pub within : is_desk_within (desk_of db machines.table) ≡ true
  pub sites : AllByRecursion IsSeated machines.seats
  -- so nobody gives a relation another split
  pub single : machines.later ≡ []
  pub still : (t : Name) → is_moving ((desk_of db machines.table).txn t) ≡ false

-- operations that are sent are of leaves at their sites
abbrev pub AreOfPlaces : (db : Database) → List letters.Letter → Type 0
AreOfPlaces db out = AreHomed (language db) (IsPlace db) (map (sent db) out)

-- whether a letter is for a site
abbrev pub is_order : bodies.Body → Bool
is_order (body.Order order) = true
is_order (body.Reply reply) = false

-- whether it can be done at a site: a letter that comes there is an order
abbrev pub is_for_site : doing.SiteAction → Bool
is_for_site (Take letter) = is_order letter.body
is_for_site (GiveUp site ticket) = true
is_for_site (Inquire site) = true
is_for_site (Restart site) = true

-- whether a letter comes
abbrev pub is_letter : doing.SiteAction → Bool
is_letter (Take letter) = true
is_letter (GiveUp site ticket) = false
is_letter (Inquire site) = false
is_letter (Restart site) = false

-- what is done at a site, as a step of the world; kept: whether the store call that it makes is kept
abbrev pub happens_at : (db : Database) → doing.SiteAction → Bool → Choice (language db) → World (language db) → World (language db)
happens_at db (Take letter) kept choice w = comes w kept choice (sent db letter)
happens_at db (GiveUp site ticket) kept choice w = gives_up w site (name_of ticket)
happens_at db (Inquire site) kept choice w = inquires w site
happens_at db (Restart site) kept choice w = restarts w site

-- a step of the machines is one of the protocol's world, whatever letters wait and whatever happened before: these
-- letters are put out, their operations of leaves at their sites, deeds are done, among them no statement that isn't explained, and clients hear of them; the same catalogue is in force
pub record Leads (db : Database) (step : World (language db) → World (language db)) (before after : Machines) (out : List letters.Letter) (notices : List Notice) : Type 0 where
  pub deeds : List (Deed (language db))
  pub fit : AreFit db after
  pub is : (waiting : List (Letter (language db))) (past : List (Deed (language db))) → step (world_of db before waiting past) ≡ world_of db after (waiting ++ map (sent db) out) (past ++ deeds)
  pub version : after.table.version ≡ before.table.version
  pub placed : AreOfPlaces db out
  pub explained : AllExplained deeds
  pub replies : map notice_of notices ≡ filter_map (told db) deeds

-- a statement is for the catalogue of this number, and brings no other
abbrev pub IsForNow : (db : Database) → ℕ → Request (language db) → Type 0
IsForNow db n (State s) = (s.0 ≡ n) × (is_refragment s.1 ≡ false)
IsForNow db n Commit_call = ⊤
IsForNow db n Rollback = ⊤
IsForNow db n Give_up = ⊤

-- what a client asks for is accepted, within the limits, and done
pub record Asked (db : Database) (txn : Txn) (choice : Choice (language db)) (request : Request (language db)) (before after : Machines) (out : List letters.Letter) (notices : List Notice) : Type 0 where
  pub leads : Leads db (λ w. called w (txn_name txn) choice request) before after out notices
  pub accepted : refusal request (txn_in db before.table txn) ≡ None
  pub within : is_desk_within (desk_after (desk_of db before.table) (txn_name txn) (on_request (txn_name txn) choice request (txn_in db before.table txn)).txn) ≡ true
  pub all : leads.deeds ≡ (on_request (txn_name txn) choice request (txn_in db before.table txn)).deeds

-- a statement of a transaction is stated, for the catalogue in force: the text is its text, and it is one over the relations of the database
pub record Stated (db : Database) (txn : Txn) (text : List ℕ) (before after : Machines) (out : List letters.Letter) (notices : List Notice) : Type 0 where
  pub statement : Statement
  pub choice : Choice (language db)
  pub spelled : IsTextOf db.schemas text (command.Run statement)
  pub fits : IsOrdinary db statement
  pub asked : Asked db txn choice (State (before.table.version, statement)) before after out notices

-- a letter comes to the machine that it is for, and its step is within the limits; kept: whether the store call that it makes is kept
pub record Came (db : Database) (letter : letters.Letter) (kept : Bool) (before after : Machines) (out : List letters.Letter) (notices : List Notice) : Type 0 where
  pub choice : Choice (language db)
  pub within : passes (world_of db before [] []) kept choice (sent db letter) ≡ true
  pub leads : Leads db (λ w. comes w kept choice (sent db letter)) before after out notices
