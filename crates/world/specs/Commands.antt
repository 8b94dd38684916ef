-- The commands of one client: the calls that each makes, and what it comes to.
use Rattle.std.specs.Prelude.{◌≡◌, ◌≤◌, ◌⊎◌, ◌^◌, ℕ, Bool, suc, true, false, List, [], ◌∷◌, ◌++◌, map, Option, Some, None, Result, Ok, Err, if◌then◌else◌, slice_get}
use Rattle.std.specs.List.{AllByRecursion, flat_map}
use Rattle.std.specs.Option.{option_map}
use Rattle.meaning.specs.declared.answer.Answer.{Answer as AnswerNow}
use Rattle.meaning.specs.declared.schema.RelationSchema.{RelationSchema}
use Rattle.meaning.specs.declared.statement.Refragment.{Refragment}
use Rattle.meaning.specs.declared.statement.Statement.{Statement}
use Rattle.meaning.specs.declared.statement.Statement.TheVariants as statements
use Rattle.meaning.specs.Statement.{is_refragment}
use Rattle.meaning.specs.Whole.{Relations}
use Rattle.reader.specs.declared.command.Command as commands
use Rattle.reader.specs.declared.command.Command.TheVariants as command
use Rattle.reader.specs.Breaks.{TextBreaks}
use Rattle.reader.specs.Command.{IsTextOf}
use Rattle.reader.specs.Fault.{Fault}
use Rattle.store.specs.Content.{Content}
use Rattle.store.specs.declared.name.Txn.{Txn}
use Rattle.protocol.specs.Desk.{Deed, next_txn}
use Rattle.protocol.specs.Letters.{txn_name}
use Rattle.protocol.specs.Serial.{committed}
use Rattle.protocol.specs.World.{begins}
use Rattle.desk.specs.declared.refusal.Refusal as refusals
use Rattle.desk.specs.declared.refusal.Refusal.TheVariants as refusal
use Rattle.desk.specs.declared.reply.Notice.{Notice}
use Rattle.desk.specs.declared.reply.Reply.TheVariants.{Answer, Begun, Committed, RolledBack}
use Rattle.desk.specs.Database.{Database, language}
use Rattle.desk.specs.Place.{Place}
use Rattle.desk.specs.Does.{IsRefragment, StatesPastLimits}
use Rattle.desk.specs.State.{desk_of, notice_of}
use Rattle.world.specs.declared.event.Call as calls
use Rattle.world.specs.declared.event.Call.TheVariants as call
use Rattle.world.specs.declared.event.Entry.{Entry}
use Rattle.world.specs.Client.{IsServed, autocommit_reply, is_end, tells}
use Rattle.world.specs.Course.{Begins, Commits, Made, Move, Refragments, Refuses, Rolls_back, States, deeds_in, said_in, said_of}
use Rattle.world.specs.Executed.{Stands}
use Rattle.world.specs.Hindered.{WereHindered}
use Rattle.world.specs.ListServed.{HasItsReason, IsListServed}
use Rattle.world.specs.Machines.{Machines, world_of}
use Rattle.world.specs.Replies.{Tells}
use Rattle.world.specs.Runs.{IsSerialRun}

-- what a client is answered by a call of the code: what it hears, or why it is refused
abbrev pub heard_in : {T : Type 0} → (T → List Notice) → Result T refusals.Refusal → Result (List Notice) refusals.Refusal
heard_in items (Ok heard) = Ok (items heard)
heard_in items (Err told) = Err told

-- ---- a text that is no command's
-- as the reader tells it: it breaks the rule that is named
pub record IsNoCommand (schemas : List RelationSchema) (text : List ℕ) (told : refusals.Refusal) : Type 0 where
  pub fault : Fault
  pub is : told ≡ refusal.Read fault
  pub breaks : TextBreaks fault.rule schemas text
  pub none : (given : commands.Command) → IsTextOf schemas text given → ⊥

-- memory ran out, or it is no command's
abbrev pub IsUnreadable : List RelationSchema → List ℕ → refusals.Refusal → Type 0
IsUnreadable schemas text told = (told ≡ refusal.Memory) ⊎ IsNoCommand schemas text told

-- ---- a lone statement, which is a transaction of its own
-- after a refusal its transaction is rolled back, or that is refused too
abbrev pub IsTakenBack : Txn → List Move → Type 0
IsTakenBack txn (Rolls_back of heard ∷ []) = of ≡ txn
IsTakenBack txn (Refuses (call.Rollback of) told ∷ []) = of ≡ txn
IsTakenBack txn other = ⊥

-- so by a call that answers what was refused
abbrev pub TakesBack : {T : Type 0} → Txn → refusals.Refusal → Result T refusals.Refusal → List Move → Type 0
TakesBack txn refused (Ok x) moves = ⊥
TakesBack txn refused (Err told) moves = IsTakenBack txn moves × (told ≡ refused)

-- so much was told of it: unless it has ended by itself its commit is asked for. Its client hears the answer where it was committed, and else how it ended
abbrev pub IsDecided : Txn → List Notice → List Move → Result (List Notice) refusals.Refusal → Type 0
IsDecided txn told [] reply = (tells is_end told ≡ true) × (reply ≡ Ok (autocommit_reply told))
IsDecided txn told (Commits of decided ∷ []) reply = (of ≡ txn) × (tells is_end told ≡ false) × (reply ≡ Ok (autocommit_reply (told ++ decided)))
IsDecided txn told (Refuses (call.Commit of) refused ∷ back) reply = (of ≡ txn) × (tells is_end told ≡ false) × IsTakenBack txn back × (reply ≡ Err refused)
IsDecided txn told other reply = ⊥

-- its transaction has begun: the statement is stated
abbrev pub IsStated : List ℕ → Txn → List Notice → List Move → Result (List Notice) refusals.Refusal → Type 0
IsStated text txn greeted (States of stated answered ∷ moves) reply = (of ≡ txn) × (stated ≡ text) × IsDecided txn (greeted ++ answered) moves reply
IsStated text txn greeted (Refuses (call.State of stated) refused ∷ back) reply = (of ≡ txn) × (stated ≡ text) × IsTakenBack txn back × (reply ≡ Err refused)
IsStated text txn greeted other reply = ⊥

abbrev pub IsLone : List ℕ → List Move → Result (List Notice) refusals.Refusal → Type 0
IsLone text (Begins txn greeted ∷ moves) reply = IsStated text txn greeted moves reply
IsLone text (Refuses call.Begin refused ∷ []) reply = reply ≡ Err refused
IsLone text other reply = ⊥

-- a REFRAGMENT, which is a transaction of its own too: it begins with its statement, and is decided as others are. txn: its transaction, of which its client heard first
abbrev pub IsRefragmented : List ℕ → List Move → Result (List Notice) refusals.Refusal → Type 0
IsRefragmented text (Refragments stated (Ok told) ∷ moves) reply = (stated ≡ text) × ((txn : Txn) × (option_map (λ notice. notice.txn) (slice_get told 0) ≡ Some txn) × IsDecided txn told moves reply)
IsRefragmented text (Refragments stated (Err refused) ∷ []) reply = (stated ≡ text) × (reply ≡ Err refused)
IsRefragmented text other reply = ⊥

-- ---- any command. current, later: the transaction that is open before and after it
-- it is refused at once, and makes no call: the text is no command's, BEGIN comes inside a transaction, REFRAGMENT where no catalogue is next, or COMMIT or ROLLBACK outside one
pub data IsMisplaced (schemas : List RelationSchema) (text : List ℕ) (current : Option Txn) (told : refusals.Refusal) : Type 0 where
  is_no_command : IsNoCommand schemas text told → IsMisplaced schemas text current told
  is_inside : (txn : Txn) → current ≡ Some txn → IsTextOf schemas text command.Begin → told ≡ refusal.Busy → IsMisplaced schemas text current told
  has_no_next : (refragment : Refragment) → current ≡ None → IsTextOf schemas text (command.Run (statements.Refragment refragment)) → told ≡ refusal.NoNext → IsMisplaced schemas text current told
  is_outside : current ≡ None → IsTextOf schemas text command.Commit ⊎ IsTextOf schemas text command.Rollback → told ≡ refusal.NoTransaction → IsMisplaced schemas text current told

-- the call that it makes, if it is no lone statement
abbrev pub IsCallOf : List RelationSchema → List ℕ → Option Txn → calls.Call → Type 0
IsCallOf schemas text current call.Begin = IsTextOf schemas text command.Begin × (current ≡ None)
IsCallOf schemas text current (call.State txn stated) = ((statement : Statement) × IsTextOf schemas text (command.Run statement)) × (current ≡ Some txn) × (stated ≡ text)
IsCallOf schemas text current (call.Commit txn) = IsTextOf schemas text command.Commit × (current ≡ Some txn)
IsCallOf schemas text current (call.Rollback txn) = IsTextOf schemas text command.Rollback × (current ≡ Some txn)
IsCallOf schemas text current (call.GiveUp txn) = ⊥
IsCallOf schemas text current (call.Refragment asked) = ⊥

-- the moves of a command, and its reply: it makes none; it makes this call, and its client hears what is told of it, or why it is refused; or it is a lone statement, or a REFRAGMENT
pub data IsCommand (schemas : List RelationSchema) (text : List ℕ) (current later : Option Txn) (moves : List Move) (reply : Result (List Notice) refusals.Refusal) : Type 0 where
  makes_none : (told : refusals.Refusal) → moves ≡ [] → IsMisplaced schemas text current told → later ≡ current → reply ≡ Err told → IsCommand schemas text current later moves reply
  only_begins : (txn : Txn) (heard : List Notice) → moves ≡ Begins txn heard ∷ [] → IsCallOf schemas text current call.Begin → later ≡ Some txn → reply ≡ Ok heard → IsCommand schemas text current later moves reply
  only_states : (txn : Txn) (stated : List ℕ) (heard : List Notice) → moves ≡ States txn stated heard ∷ [] → IsCallOf schemas text current (call.State txn stated) → later ≡ (if tells is_end heard then None else current) → reply ≡ Ok heard → IsCommand schemas text current later moves reply
  only_commits : (txn : Txn) (heard : List Notice) → moves ≡ Commits txn heard ∷ [] → IsCallOf schemas text current (call.Commit txn) → later ≡ None → reply ≡ Ok heard → IsCommand schemas text current later moves reply
  only_rolls_back : (txn : Txn) (heard : List Notice) → moves ≡ Rolls_back txn heard ∷ [] → IsCallOf schemas text current (call.Rollback txn) → later ≡ None → reply ≡ Ok heard → IsCommand schemas text current later moves reply
  is_turned_down : (asked : calls.Call) (told : refusals.Refusal) → moves ≡ Refuses asked told ∷ [] → IsCallOf schemas text current asked → later ≡ current → reply ≡ Err told → IsCommand schemas text current later moves reply
  is_lone : (statement : Statement) → IsTextOf schemas text (command.Run statement) → is_refragment statement ≡ false → current ≡ None → later ≡ None → IsLone text moves reply → IsCommand schemas text current later moves reply
  refragments : (refragment : Refragment) → IsTextOf schemas text (command.Run (statements.Refragment refragment)) → current ≡ None → later ≡ None → IsRefragmented text moves reply → IsCommand schemas text current later moves reply

-- ---- what a command comes to, where the database stands and no catalogue comes later
-- its transaction has begun, is committed, is rolled back, or its statement is answered, and its client hears so; or something was refused on the way; or it is refused:
-- at once; a transaction can't begin, since the numbers have run out; REFRAGMENT comes inside a transaction; or to state the statement would lead past the limits, in the open transaction or in the one that has begun for it alone.
-- past, deeds: what had happened before it, and what has happened by it
pub data Outcome (db : Database) (text : List ℕ) (current later : Option Txn) (before after : Machines) (past deeds : List (Deed (language db))) (reply : Result (List Notice) refusals.Refusal) : Type 0 where
  has_begun : (txn : Txn) (heard : List Notice) → reply ≡ Ok heard → IsTextOf db.schemas text command.Begin → later ≡ Some txn → map notice_of heard ≡ (txn_name txn, Begun) ∷ [] → Outcome db text current later before after past deeds reply
  has_committed : (txn : Txn) (heard : List Notice) → reply ≡ Ok heard → IsTextOf db.schemas text command.Commit → current ≡ Some txn → map notice_of heard ≡ (txn_name txn, Committed) ∷ [] → Outcome db text current later before after past deeds reply
  has_rolled_back : (txn : Txn) (heard : List Notice) → reply ≡ Ok heard → IsTextOf db.schemas text command.Rollback → current ≡ Some txn → map notice_of heard ≡ (txn_name txn, RolledBack) ∷ [] → Outcome db text current later before after past deeds reply
  has_answered : (txn : Txn) (statement : Statement) (heard : List Notice) (answer : AnswerNow) → reply ≡ Ok heard → IsTextOf db.schemas text (command.Run statement) → later ≡ current → map notice_of heard ≡ (txn_name txn, Answer answer) ∷ [] → Outcome db text current later before after past deeds reply
  is_hindered : (heard : List Notice) → reply ≡ Ok heard → WereHindered db before after past deeds → Outcome db text current later before after past deeds reply
  is_misplaced : (told : refusals.Refusal) → reply ≡ Err told → later ≡ current → IsMisplaced db.schemas text current told → Outcome db text current later before after past deeds reply
  finds_no_number : (told : refusals.Refusal) → reply ≡ Err told → later ≡ current → told ≡ refusal.Full → current ≡ None → IsTextOf db.schemas text command.Begin ⊎ ((statement : Statement) × IsTextOf db.schemas text (command.Run statement)) → 2 ^ 63 ≤ suc before.table.number → Outcome db text current later before after past deeds reply
  is_refragment_inside : (told : refusals.Refusal) → reply ≡ Err told → later ≡ current → (txn : Txn) → current ≡ Some txn → IsRefragment db.schemas text told → Outcome db text current later before after past deeds reply
  is_too_much : (told : refusals.Refusal) → reply ≡ Err told → later ≡ current → told ≡ refusal.Full → (txn : Txn) → current ≡ Some txn → StatesPastLimits db before.table txn text → Outcome db text current later before after past deeds reply
  is_too_much_alone : (told : refusals.Refusal) → reply ≡ Err told → later ≡ current → told ≡ refusal.Full → current ≡ None → (txn : Txn) → txn_name txn ≡ next_txn (desk_of db before.table) → (began : Machines) (done left : List (Deed (language db))) → deeds ≡ done ++ left → begins (world_of db before [] past) ≡ world_of db began [] (past ++ done) → StatesPastLimits db began.table txn text → Outcome db text current later before after past deeds reply

-- A command is executed, or refused, and that stops nothing: these are its moves, and these deeds are done. What was asked for and heard tells what has happened, so the serial law holds of
-- it: with all that was before, the committed transactions, one after another over the whole relations, give the answers that were heard and what the settled
-- fragments rebuild. Where it is refused nothing is committed. A database that stood stands again, and the command comes to its outcome. entries, past: what was
-- asked for and heard, and what had happened, before it
pub record Executes (db : Database) (fits : Place → Content → Bool) (whole : Relations) (text : List ℕ) (current : Option Txn) (before : Machines) (later : Option Txn) (after : Machines) (past : List (Deed (language db))) (reply : Result (List Notice) refusals.Refusal) : Type 0 where
  pub moves : List Move
  pub deeds : List (Deed (language db))
  pub command : IsCommand db.schemas text current later moves reply
  pub served : IsListServed db whole after (past ++ deeds)
  pub tells : (entries : List Entry) → Tells db entries past → Tells db (entries ++ flat_map said_of moves) (past ++ deeds)
  pub serial : (entries : List Entry) → Tells db entries past → IsSerialRun db whole after (entries ++ flat_map said_of moves)
  pub reasons : AllByRecursion (HasItsReason db whole past deeds) moves
  pub uncommitted : (told : refusals.Refusal) → reply ≡ Err told → committed (past ++ deeds) ≡ committed past
  pub stands : Stands db fits current before past → Stands db fits later after (past ++ deeds)
  pub outcome : Stands db fits current before past → Outcome db text current later before after past deeds reply

-- ---- the laws
-- what happens to a client's database, move by move, and what tells of it
pub record MovesFollow (db : Database) : Type 0 where
  pub served : (whole : Relations) (moves : List Move) (before after : Machines) (past : List (Deed (language db))) → IsServed db whole before past → (made : Made db moves before after) → IsServed db whole after (past ++ deeds_in db moves before after made)
  pub tells : (moves : List Move) (before after : Machines) (entries : List Entry) (past : List (Deed (language db))) → Tells db entries past → (made : Made db moves before after) → Tells db (entries ++ said_in moves) (past ++ deeds_in db moves before after made)
  pub serial : (whole : Relations) (machines : Machines) (entries : List Entry) (past : List (Deed (language db))) → Tells db entries past → IsServed db whole machines past → IsSerialRun db whole machines entries

-- commands of a client's database that is served
abbrev pub CommandsFollow : (db : Database) → (Place → Content → Bool) → Type 0
CommandsFollow db fits = (whole : Relations) (text : List ℕ) (current later : Option Txn) (before after : Machines) (past : List (Deed (language db))) (reply : Result (List Notice) refusals.Refusal) (moves : List Move) → IsServed db whole before past → Made db moves before after →
    IsCommand db.schemas text current later moves reply → Executes db fits whole text current before later after past reply
