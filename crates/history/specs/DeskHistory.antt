-- The history of the coordinator: each entry is the protocol's step of what the coordinator was called for, or a refusal that changes nothing.
use Rattle.std.specs.Prelude.{◌≡◌, ℕ, nat_eq, List, [], ◌∷◌, ◌++◌, map, Bool, true, false, Option, Some, None}
use Rattle.std.specs.Cmp.Lexicographic.{pointwise}
use Rattle.std.specs.List.{list_any}
use Rattle.meaning.specs.declared.statement.Statement.{Statement}
use Rattle.catalog.specs.declared.relation.SplitRelation.{SplitRelation}
use Rattle.catalog.specs.Catalogue.{Catalogue}
use Rattle.catalog.specs.Relation.{catalogue_of}
use Rattle.protocol.specs.Desk as protocol
use Rattle.protocol.specs.Language.{Name}
use Rattle.protocol.specs.Letters.{txn_name}
use Rattle.store.specs.declared.commit.DeskKept.{DeskKept}
use Rattle.store.specs.declared.letter.Body.TheVariants as body
use Rattle.store.specs.declared.letter.Letter.{Letter}
use Rattle.store.specs.declared.name.Txn.{Txn}
use Rattle.store.specs.declared.reply.Reply.{Reply}
use Rattle.store.specs.DeskContent.{DeskContent, Lists}
use Rattle.desk.specs.declared.desk.Desk.{Desk}
use Rattle.desk.specs.Database.{Database, language, replied}
use Rattle.desk.specs.Does.{States, Takes}
use Rattle.desk.specs.Receive.{is_strange}
use Rattle.desk.specs.Recovery.{Restarts, Rises}
use Rattle.desk.specs.Refragmented.{RefragmentsBy}
use Rattle.desk.specs.Request.{txn_in}
use Rattle.desk.specs.State.{Begins, Fits, Steps, VolatileState, anyone_moves, desk_of, volatile_of}
use Rattle.desk.specs.Transition.{is_moving}
use Rattle.world.specs.declared.event.Call.TheVariants as call
use Rattle.world.specs.declared.fault.Fault as faults
use Rattle.history.specs.declared.entry.Entry.{Entry}
use Rattle.history.specs.declared.entry.Input as inputs
use Rattle.history.specs.declared.entry.Input.TheVariants as input
use Rattle.history.specs.Catalogues.{IsOfCatalogues, HasFrom, catalogs_after, catalogues_of}
use Rattle.history.specs.Replays.{Replays}
use Rattle.history.specs.SiteHistory.{is_kept}

-- the coordinator: what its store keeps, and what it has in memory
pub record DeskState : Type 0 where
  pub content : DeskContent
  pub table : VolatileState

abbrev pub desk_from : {D : Type 0} → (D → DeskContent) → Desk D → DeskState
desk_from content desk = record { content = content desk.store; table = volatile_of desk.volatile }

module _ (db : Database) where
  -- what is in memory fits what the store keeps, within the limits
  pub record IsFit (desk : DeskState) : Type 0 where
    pub fits : Fits db desk.content desk.table
    pub within : protocol.is_desk_within (desk_of db desk.table) ≡ true

  -- a transaction begins, where none gives a relation another split
  pub record AsksToBegin (before : DeskState) (entry : Entry) (after : DeskState) : Type 0 where
    pub still : anyone_moves before.table ≡ false
    pub begins : Begins db false before.table after.content after.table entry.letters entry.replies

  -- a request of a client is one that the protocol accepts, and is done
  pub record Asks (before : DeskState) (txn : Txn) (request : protocol.Request (language db)) (entry : Entry) (after : DeskState) : Type 0 where
    pub accepted : protocol.refusal request (txn_in db before.table txn) ≡ None
    pub steps : (choice : protocol.Choice (language db)) → Steps db before.table after.content after.table txn (protocol.on_request (txn_name txn) choice request (txn_in db before.table txn)) entry.letters entry.replies

  -- a statement is one that the protocol accepts, and is done; its transaction gives no relation another split
  pub record AsksStatement (before : DeskState) (txn : Txn) (text : List ℕ) (entry : Entry) (after : DeskState) : Type 0 where
    pub still : is_moving (before.table.standing txn) ≡ false
    pub accepted : (statement : Statement) → protocol.refusal (protocol.State (before.table.version, statement)) (txn_in db before.table txn) ≡ None
    pub states : States db before.table after.content after.table txn text entry.letters entry.replies

  -- a letter that no site of the catalogue sends is passed over; any other is taken
  pub record TakesReply (before : DeskState) (letter : Letter) (entry : Entry) (after : DeskState) : Type 0 where
    pub strange : is_strange db.sites letter ≡ true → (after ≡ before) × ((entry.letters ≡ []) × (entry.replies ≡ []))
    pub takes : (reply : Reply) → letter.body ≡ body.Reply reply → list_any (λ site. pointwise nat_eq site letter.site) db.sites ≡ true →
        Takes db before.table after.content after.table letter.txn
        (λ choice. protocol.on_desk_letter (txn_name letter.txn) letter.site entry.kept choice (replied db letter.site reply) (txn_in db before.table letter.txn)) entry.letters entry.replies

  -- what the coordinator makes of what it is called for; visits and inquiries are the sites'
  abbrev pub DeskDoes : inputs.Input → DeskState → Entry → DeskState → Type 0
  DeskDoes (input.Call call.Begin) before entry after = AsksToBegin before entry after
  DeskDoes (input.Call (call.State txn text)) before entry after = AsksStatement before txn text entry after
  DeskDoes (input.Call (call.Commit txn)) before entry after = Asks before txn protocol.Commit_call entry after
  DeskDoes (input.Call (call.Rollback txn)) before entry after = Asks before txn protocol.Rollback entry after
  DeskDoes (input.Call (call.GiveUp txn)) before entry after = Asks before txn protocol.Give_up entry after
  DeskDoes (input.Call (call.Refragment text)) before entry after = RefragmentsBy db before.table after.content after.table text entry.letters entry.replies
  DeskDoes (input.Take letter) before entry after = TakesReply before letter entry after
  DeskDoes (input.GiveUp ticket) before entry after = ⊥
  DeskDoes input.Inquire before entry after = ⊥
  DeskDoes input.Restart before entry after = Restarts db before.table after.content after.table entry.letters entry.replies

  -- whether a step calls no store
  abbrev pub is_silent : inputs.Input → Bool
  is_silent (input.Take letter) = false
  is_silent other = true

  -- whether a client asks for something
  abbrev pub is_call : inputs.Input → Bool
  is_call (input.Call call) = true
  is_call other = false

  -- a call is accepted: the coordinator makes the protocol's step; what clients ask for changes nothing that the store keeps
  pub record DeskAccepts (before : DeskState) (entry : Entry) (after : DeskState) : Type 0 where
    pub fit : IsFit after
    pub does : DeskDoes entry.input before entry after
    pub kept : is_silent entry.input ≡ true → entry.kept ≡ true
    pub content : is_call entry.input ≡ true → after.content ≡ before.content

  -- a call is refused: nothing has changed, and nothing is put out
  pub record DeskRefuses (before : DeskState) (entry : Entry) (told : faults.Fault) (after : DeskState) : Type 0 where
    pub same : after ≡ before
    pub letters : entry.letters ≡ []
    pub replies : entry.replies ≡ []
    pub kept : entry.kept ≡ is_kept told

  abbrev pub DeskAnswers : Option faults.Fault → DeskState → Entry → DeskState → Type 0
  DeskAnswers None before entry after = DeskAccepts before entry after
  DeskAnswers (Some told) before entry after = DeskRefuses before entry told after

  -- a call of the coordinator
  abbrev pub DeskMoves : DeskState → Entry → DeskState → Type 0
  DeskMoves before entry after = DeskAnswers entry.fault before entry after

  -- the coordinator's history: at its opening the store kept this and nothing else was in memory, and the entries lead from there to what the coordinator is now
  pub record DeskRecorded (opening : DeskKept) (entries : List Entry) (last : DeskState) : Type 0 where
    pub first : DeskState
    pub lists : Lists first.content opening
    pub rises : Rises db first.content first.table
    pub replays : Replays DeskMoves first entries last
    pub fit : IsFit last

-- what a cell has of the coordinator: contracts see the catalogues that it had at the opening, what its store kept then, the entries, and the coordinator
pub record DeskHistory (D : Type 0) : Type 0 where
  pub catalogs : List (List (List ℕ) × List SplitRelation)
  pub opening : DeskKept
  pub entries : List Entry
  pub desk : Desk D

-- in a database the history replays; the catalogue in force has the number now, and those that come after it the numbers after that; where none does, nobody gives a relation another split
pub record DeskReplays {D : Type 0} (db : Database) (content : D → DeskContent) (opening : DeskKept) (entries : List Entry) (desk : Desk D) : Type 0 where
  pub recorded : DeskRecorded db opening entries (desk_from content desk)
  pub has : HasFrom db desk.volatile.version (catalogues_of desk)
  pub still : desk.later.items ≡ [] → (t : Name) → protocol.is_moving ((desk_of db (volatile_of desk.volatile)).txn t) ≡ false

-- The catalogues are what is left of those at the opening. Where the store is clean, it is sound, and the history replays in each database that has these catalogues from the opening's number on.
pub record DeskHolds {D : Type 0} (is_clean is_sound : D → Type 0) (content : D → DeskContent) (catalogs : List (List (List ℕ) × List SplitRelation)) (opening : DeskKept) (entries : List Entry) (desk : Desk D) : Type 0 where
  pub passed : List Catalogue
  pub left : map catalogue_of catalogs ≡ passed ++ catalogues_of desk
  pub sound : is_clean desk.store → is_sound desk.store
  pub replays : is_clean desk.store → (db : Database) → IsOfCatalogues db opening.version (map catalogue_of catalogs) → DeskReplays db content opening entries desk

-- a call has added its entry, and no other; the next catalogue came into force by it only with another number
pub record AddsDesk {D : Type 0} (is_clean : D → Type 0) (content : D → DeskContent) (old : DeskHistory D) (asked : inputs.Input) (entry : Entry) (new : DeskHistory D) : Type 0 where
  pub input : entry.input ≡ asked
  pub entries : new.entries ≡ old.entries ++ entry ∷ []
  pub opening : new.opening ≡ old.opening
  pub catalogs : new.catalogs ≡ old.catalogs
  pub in_force : (new.desk.catalog, new.desk.later.items) ≡ catalogs_after asked old.desk new.desk.volatile.version
  pub moves : is_clean new.desk.store → (db : Database) → IsOfCatalogues db new.opening.version (map catalogue_of new.catalogs) → DeskMoves db (desk_from content old.desk) entry (desk_from content new.desk)

-- a call has added none: the store may have been asked, but keeps what it kept, and the coordinator is as it was
pub record StaysDesk {D : Type 0} (is_clean : D → Type 0) (content : D → DeskContent) (old new : DeskHistory D) : Type 0 where
  pub entries : new.entries ≡ old.entries
  pub opening : new.opening ≡ old.opening
  pub catalogs : new.catalogs ≡ old.catalogs
  pub catalog : new.desk.catalog ≡ old.desk.catalog
  pub later : new.desk.later.items ≡ old.desk.later.items
  pub same : is_clean new.desk.store → desk_from content new.desk ≡ desk_from content old.desk
