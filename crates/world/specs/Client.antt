-- One client's database: what it has been through, and what its calls do.
use Rattle.std.specs.Prelude.{◌≡◌, ℕ, true, List, [], ◌++◌, filter, Option, None, if◌then◌else◌}
use Rattle.meaning.specs.declared.statement.Statement.{Statement}
use Rattle.meaning.specs.Whole.{Relations}
use Rattle.reader.specs.declared.command.Command.TheVariants.{Run}
use Rattle.reader.specs.Command.{IsTextOf}
use Rattle.store.specs.declared.name.Txn.{Txn}
use Rattle.protocol.specs.Catalogues.{IsSerialList}
use Rattle.protocol.specs.Client.{IsReached}
use Rattle.protocol.specs.Desk as protocol
use Rattle.protocol.specs.Letters.{txn_name}
use Rattle.protocol.specs.Local.{local}
use Rattle.desk.specs.declared.reply.Notice.{Notice}
pub use Rattle.desk.specs.Reply.{is_answer, is_commit, is_end, tells}
use Rattle.desk.specs.Request.{txn_in}
use Rattle.desk.specs.Database.{Database, IsOrdinary, language, statements}
use Rattle.desk.specs.State.{desk_of}
use Rattle.world.specs.Mailbox.{Serves, To_begin, To_do}
use Rattle.world.specs.Machines.{AreFit, Machines, world_of}

-- after some list of events, of which one client forgets the letters that have gone, the world is that of these machines and deeds. version: the number of the catalogue in force as it opened
pub record IsServed (db : Database) (whole : Relations) (machines : Machines) (past : List (protocol.Deed (language db))) : Type 0 where
  pub version : ℕ
  pub reached : IsReached (version, whole) (world_of db machines [] past)
  pub fit : AreFit db machines

-- the serial law of the machines at hand
abbrev pub ServedIsSerial : Database → Type 0
ServedIsSerial db = (whole : Relations) (machines : Machines) (past : List (protocol.Deed (language db))) → IsServed db whole machines past → IsSerialList local (statements db) whole (world_of db machines [] past)

-- so once more has been done
pub record IsServedOn (db : Database) (whole : Relations) (machines : Machines) (past : List (protocol.Deed (language db))) : Type 0 where
  pub deeds : List (protocol.Deed (language db))
  pub served : IsServed db whole machines (past ++ deeds)

-- the transaction that is open after these notices, if one was
abbrev pub still_open : Option Txn → List Notice → Option Txn
still_open current heard = if tells is_end heard then None else current

-- a transaction begins, within the limits; its client hears its name
pub record DoesBegin (db : Database) (before : Machines) (txn : Txn) (after : Machines) (heard : List Notice) : Type 0 where
  pub named : txn_name txn ≡ protocol.next_txn (desk_of db before.table)
  pub within : protocol.is_desk_within (protocol.desk_began (desk_of db before.table)) ≡ true
  pub serves : Serves db To_begin before after heard

-- a transaction asks for something, which is accepted, within the limits
pub record DoesAsk (db : Database) (request : protocol.Request (language db)) (txn : Txn) (before after : Machines) (heard : List Notice) : Type 0 where
  pub choice : protocol.Choice (language db)
  pub accepted : protocol.refusal request (txn_in db before.table txn) ≡ None
  pub within : protocol.is_desk_within (protocol.desk_after (desk_of db before.table) (txn_name txn) (protocol.on_request (txn_name txn) choice request (txn_in db before.table txn)).txn) ≡ true
  pub serves : Serves db (To_do (txn_name txn) request choice) before after heard

-- what the client of a lone statement hears of all that was told: the answer where it was committed, and else how it ended
abbrev pub autocommit_reply : List Notice → List Notice
autocommit_reply heard = if tells is_commit heard then filter (λ notice. is_answer notice.reply) heard else filter (λ notice. is_end notice.reply) heard

-- a statement of this text is stated, for the catalogue in force
pub record DoesState (db : Database) (text : List ℕ) (txn : Txn) (before after : Machines) (heard : List Notice) : Type 0 where
  pub statement : Statement
  pub spelled : IsTextOf db.schemas text (Run statement)
  pub fits : IsOrdinary db statement
  pub asks : DoesAsk db (protocol.State (before.table.version, statement)) txn before after heard
