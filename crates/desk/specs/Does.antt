-- What is done of a statement.
use Rattle.std.specs.Prelude.{◌≡◌, ◌⊎◌, ℕ, true, false, List, map, Option}
use Rattle.std.specs.BTreeMap.{is_at}
use Rattle.std.specs.List.{AllByRecursion, filter_map}
use Rattle.std.specs.Map.{set_value}
use Rattle.meaning.specs.declared.schema.RelationSchema.{RelationSchema}
use Rattle.meaning.specs.declared.statement.Refragment.{Refragment}
use Rattle.meaning.specs.declared.statement.Statement.{Statement}
use Rattle.meaning.specs.declared.statement.Statement.TheVariants as statements
use Rattle.meaning.specs.Statement.{IsStatementOf, is_refragment}
use Rattle.reader.specs.declared.command.Command.{Command}
use Rattle.reader.specs.declared.command.Command.TheVariants as command
use Rattle.reader.specs.declared.fault.Rule.TheVariants as rules
use Rattle.reader.specs.Breaks.{TextBreaks}
use Rattle.reader.specs.Command.{IsTextOf}
use Rattle.reader.specs.Fault.{Fault}
use Rattle.store.specs.DeskContent.{DeskContent}
use Rattle.store.specs.declared.letter.Letter.{Letter}
use Rattle.store.specs.declared.name.Txn.{Txn}
use Rattle.store.specs.Name.{txn_cmp}
use Rattle.protocol.specs.Desk as protocol
use Rattle.protocol.specs.Letters.{txn_name}
use Rattle.protocol.specs.Local.{AtKey}
use Rattle.protocol.specs.Serial.{AllExplained}
use Rattle.desk.specs.declared.volatile.Volatile.{Volatile}
use Rattle.desk.specs.declared.refusal.Refusal as refusals
use Rattle.desk.specs.declared.refusal.Refusal.TheVariants as refusal
use Rattle.desk.specs.declared.reply.Notice.{Notice}
use Rattle.desk.specs.declared.reply.Reply.{Reply}
use Rattle.desk.specs.declared.transaction.TxnState.{TxnState}
use Rattle.desk.specs.declared.transaction.TxnState.TheVariants as standing
use Rattle.desk.specs.declared.statement.Progress.{Progress}
use Rattle.desk.specs.declared.transaction.Undecided.{Undecided}
use Rattle.desk.specs.Request.{notices, txn_in}
use Rattle.desk.specs.Database.{Database, IsPlace, language, sent}
use Rattle.desk.specs.Place.{Place}
use Rattle.desk.specs.Send.{AreShort}
use Rattle.desk.specs.State.{IsIn, Steps, VolatileState, desk_of, volatile_from}
use Rattle.desk.specs.Transaction.{undecided_of}
use Rattle.desk.specs.Transition.{told, told_to}

-- writes are of leaves at their sites
abbrev pub ArePlaced : Database → List (Place × AtKey) → Type 0
ArePlaced db writes = AllByRecursion (λ write. IsPlace db write.0) writes

-- a step is the protocol's, and the transaction is still undecided; reply: what its client hears
pub record IsProgress (db : Database) (txn : Txn) (new : Undecided) (step : Progress) (wanted : protocol.Transition (language db)) : Type 0 where
  pub stands : protocol.Known (undecided_of db new) ≡ wanted.txn
  pub letters : map (sent db) step.letters.items ≡ wanted.letters
  pub reply : Option Reply
  pub heard : step.replies.items ≡ notices txn reply
  pub replies : told_to (txn_name txn) reply ≡ filter_map (told db) wanted.deeds

-- a step is the protocol's for one answer and its writes: these are explained, and of leaves at their sites; n: the number of the catalogue in force
pub record Does (db : Database) (n : ℕ) (txn : Txn) (new : Undecided) (made : Progress) (wanted : protocol.Choice (language db) → protocol.Transition (language db)) : Type 0 where
  pub choice : protocol.Choice (language db)
  pub step : IsProgress db txn new made (wanted choice)
  pub explained : AllExplained (wanted choice).deeds
  pub placed : ArePlaced db choice.1
  pub within : IsIn db n (standing.Undecided new)

-- so of what stands behind a transaction
abbrev pub DoesIn : (db : Database) → ℕ → Txn → TxnState → Progress → (protocol.Choice (language db) → protocol.Transition (language db)) → Type 0
DoesIn db n txn (standing.Undecided new) made wanted = Does db n txn new made wanted
DoesIn db n txn (standing.Committed committed) made wanted = ⊥

-- an undecided transaction's counts are below the limit
abbrev pub IsShort : TxnState → Type 0
IsShort (standing.Undecided undecided) = AreShort undecided.participants
IsShort (standing.Committed committed) = Unit {0}

-- a text that is no statement's, as the reader tells it: it breaks a rule and is no command's, or it begins or ends a transaction
pub record IsUnread (schema : List RelationSchema) (text : List ℕ) (told : refusals.Refusal) : Type 0 where
  pub fault : Fault
  pub is : told ≡ refusal.Read fault
  pub why : (TextBreaks fault.rule schema text × ((given : Command) → IsTextOf schema text given → ⊥))
      ⊎ ((fault ≡ record { rule = rules.Syntax; offset = 0 }) × (IsTextOf schema text command.Begin ⊎ (IsTextOf schema text command.Commit ⊎ IsTextOf schema text command.Rollback)))

-- a text is a REFRAGMENT, which is no statement of a transaction that a client has begun
pub record IsRefragment (schema : List RelationSchema) (text : List ℕ) (told : refusals.Refusal) : Type 0 where
  pub refragment : Refragment
  pub spelled : IsTextOf schema text (command.Run (statements.Refragment refragment))
  pub is : told ≡ refusal.Busy

-- what the reader has of a text is this statement, which a transaction may state
pub record IsReadAs (schema : List RelationSchema) (text : List ℕ) (statement : Statement) : Type 0 where
  pub spelled : IsTextOf schema text (command.Run statement)
  pub fits : IsStatementOf schema statement
  pub ordinary : is_refragment statement ≡ false

-- a text that no transaction states
abbrev pub IsNoStatement : List RelationSchema → List ℕ → refusals.Refusal → Type 0
IsNoStatement schema text told = IsUnread schema text told ⊎ IsRefragment schema text told

-- a statement is run
pub record Runs (db : Database) (before : VolatileState) (kept : DeskContent) (after : VolatileState) (txn : Txn) (statement : Statement) (written : List Letter) (heard : List Notice) : Type 0 where
  pub ordinary : is_refragment statement ≡ false
  pub choice : protocol.Choice (language db)
  pub steps : Steps db before kept after txn (protocol.on_request (txn_name txn) choice (protocol.State (before.version, statement)) (txn_in db before txn)) written heard
  pub explained : AllExplained (protocol.on_request (txn_name txn) choice (protocol.State (before.version, statement)) (txn_in db before txn)).deeds
  pub placed : ArePlaced db choice.1

-- a text is a statement's, and the statement is run
pub record States (db : Database) (before : VolatileState) (kept : DeskContent) (after : VolatileState) (txn : Txn) (text : List ℕ) (written : List Letter) (heard : List Notice) : Type 0 where
  pub statement : Statement
  pub spelled : IsTextOf db.schemas text (command.Run statement)
  pub fits : IsStatementOf db.schemas statement
  pub runs : Runs db before kept after txn statement written heard

-- a letter of a site is taken
pub record Takes (db : Database) (before : VolatileState) (kept : DeskContent) (after : VolatileState) (txn : Txn) (wanted : protocol.Choice (language db) → protocol.Transition (language db)) (written : List Letter) (heard : List Notice) : Type 0 where
  pub choice : protocol.Choice (language db)
  pub steps : Steps db before kept after txn (wanted choice) written heard
  pub explained : AllExplained (wanted choice).deeds
  pub placed : ArePlaced db choice.1

-- a statement goes on in memory
pub record GoesOn (db : Database) (old : Volatile) (after : VolatileState) (txn : Txn) (made : Progress) (wanted : protocol.Choice (language db) → protocol.Transition (language db)) : Type 0 where
  pub new : Undecided
  pub moved : after ≡ volatile_from (set_value (is_at (txn_cmp txn)) old.standings.entries (standing.Undecided new)) old.undecided old.life old.number old.version
  pub does : Does db old.version txn new made wanted
  pub short : protocol.is_short_txn (wanted does.choice).txn ≡ true

-- for one answer and its writes, which are explained, the step sends a site more operations than the limit allows
pub record IsLong (db : Database) (wanted : protocol.Choice (language db) → protocol.Transition (language db)) : Type 0 where
  pub choice : protocol.Choice (language db)
  pub explained : AllExplained (wanted choice).deeds
  pub long : protocol.is_short_txn (wanted choice).txn ≡ false

-- so the step would lead past the coordinator's limits
pub record IsPastLimits (db : Database) (before : VolatileState) (txn : Txn) (wanted : protocol.Choice (language db) → protocol.Transition (language db)) : Type 0 where
  pub choice : protocol.Choice (language db)
  pub explained : AllExplained (wanted choice).deeds
  pub past : protocol.is_desk_within (protocol.desk_after (desk_of db before) (txn_name txn) (wanted choice).txn) ≡ false

-- to run the statement would lead past them
abbrev pub RunsPastLimits : Database → VolatileState → Txn → Statement → Type 0
RunsPastLimits db before txn statement = IsPastLimits db before txn (λ choice. protocol.on_request (txn_name txn) choice (protocol.State (before.version, statement)) (txn_in db before txn))

-- a text is a statement's, and to run that would
pub record StatesPastLimits (db : Database) (before : VolatileState) (txn : Txn) (text : List ℕ) : Type 0 where
  pub statement : Statement
  pub spelled : IsTextOf db.schemas text (command.Run statement)
  pub fits : IsStatementOf db.schemas statement
  pub past : RunsPastLimits db before txn statement
