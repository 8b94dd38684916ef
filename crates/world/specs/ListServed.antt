-- One client's database over a list of catalogues, of which another one may come into force: what it has been through, and what its calls do.
use Rattle.std.specs.Prelude.{◌≡◌, ◌⊎◌, ⊤, ℕ, true, List, [], ◌++◌, map, Ok, Err}
use Rattle.std.specs.List.{AllByRecursion, filter_map, flat_map}
use Rattle.meaning.specs.Whole.{Relations}
use Rattle.store.specs.declared.letter.Letter as letters
use Rattle.protocol.specs.Accepted.{stated_of}
use Rattle.protocol.specs.Catalogues.{IsSerialList}
use Rattle.protocol.specs.Client.{IsReached}
use Rattle.protocol.specs.Desk.{Deed}
use Rattle.protocol.specs.Local.{local}
use Rattle.protocol.specs.Serial.{committed, phases_of}
use Rattle.desk.specs.declared.refusal.Refusal.{Refusal}
use Rattle.desk.specs.declared.reply.Notice.{Notice}
use Rattle.desk.specs.Database.{Database, language, sent, statements}
use Rattle.desk.specs.State.{notice_of}
use Rattle.desk.specs.Transition.{told}
use Rattle.world.specs.declared.event.Call as calls
use Rattle.world.specs.declared.event.Call.TheVariants as call
use Rattle.world.specs.declared.event.Entry.{Entry}
use Rattle.world.specs.Course.{Begins, Commits, CommitsNone, Move, Refragments, Refuses, Rolls_back, States, said_of}
use Rattle.world.specs.Listed.{FitsList}
use Rattle.world.specs.Machines.{Machines, world_of}
use Rattle.world.specs.Refused.{IsRefused}
use Rattle.world.specs.Replies.{Tells}
use Rattle.world.specs.Runs.{IsSerialRun}
use Rattle.world.specs.Stopping.{is_stop}

-- after some list of events, of which one client forgets the letters that have gone, the world is that of these machines, of these letters that wait, and of these deeds. version: the number of the catalogue in force as it opened
pub record IsListWaiting (db : Database) (whole : Relations) (machines : Machines) (waiting : List letters.Letter) (past : List (Deed (language db))) : Type 0 where
  pub version : ℕ
  pub reached : IsReached (version, whole) (world_of db machines (map (sent db) waiting) past)
  pub fit : FitsList db machines

-- so where no letter waits
abbrev pub IsListServed : (db : Database) → Relations → Machines → List (Deed (language db)) → Type 0
IsListServed db whole machines past = IsListWaiting db whole machines [] past

-- so once more has been done
pub record IsListServedOn (db : Database) (whole : Relations) (machines : Machines) (past : List (Deed (language db))) : Type 0 where
  pub deeds : List (Deed (language db))
  pub served : IsListServed db whole machines (past ++ deeds)

-- letters come to the machines: further deeds are done, by which nobody states anything and nobody asks for a commit, these letters wait, and the client hears of the deeds. was, now: what it has heard before and since
pub record ListGoes (db : Database) (whole : Relations) (machines : Machines) (waiting : List letters.Letter) (past : List (Deed (language db))) (was now : List Notice) : Type 0 where
  pub deeds : List (Deed (language db))
  pub served : IsListWaiting db whole machines waiting (past ++ deeds)
  pub unphased : phases_of deeds ≡ []
  pub unstated : stated_of deeds ≡ []
  pub replies : map notice_of now ≡ map notice_of was ++ filter_map (told db) deeds

-- the machines that were served once some of the deeds had been done refuse a call, for a reason of the coordinator's. past: what had happened before them
pub record RefusedOnTheWay (db : Database) (whole : Relations) (past deeds : List (Deed (language db))) (asked : calls.Call) (told : Refusal) : Type 0 where
  pub machines : Machines
  pub done : List (Deed (language db))
  pub left : List (Deed (language db))
  pub split : deeds ≡ done ++ left
  pub served : IsListServed db whole machines (past ++ done)
  pub reason : IsRefused db machines.later machines.table asked told

-- why a move was refused, if it was: memory ran out or a store failed, or the coordinator refuses it
abbrev pub HasItsReason : (db : Database) → Relations → (past deeds : List (Deed (language db))) → Move → Type 0
HasItsReason db whole past deeds (Begins txn heard) = ⊤
HasItsReason db whole past deeds (States txn text heard) = ⊤
HasItsReason db whole past deeds (Commits txn heard) = ⊤
HasItsReason db whole past deeds (Rolls_back txn heard) = ⊤
HasItsReason db whole past deeds (Refragments text (Ok heard)) = ⊤
HasItsReason db whole past deeds (Refragments text (Err told)) = (is_stop told ≡ true) ⊎ RefusedOnTheWay db whole past deeds (call.Refragment text) told
HasItsReason db whole past deeds (Refuses asked told) = (is_stop told ≡ true) ⊎ RefusedOnTheWay db whole past deeds asked told

-- moves of this kind were made, by further deeds: what was asked for and heard tells of them, with all that was asked for and heard before; each that was refused has its reason; and where no commit is asked for and done, nothing more is committed
pub record ListMade (db : Database) (whole : Relations) (machines : Machines) (past : List (Deed (language db))) (kind : List Move → Type 0) : Type 0 where
  pub moves : List Move
  pub deeds : List (Deed (language db))
  pub served : IsListServed db whole machines (past ++ deeds)
  pub tells : (entries : List Entry) → Tells db entries past → Tells db (entries ++ flat_map said_of moves) (past ++ deeds)
  pub reasons : AllByRecursion (HasItsReason db whole past deeds) moves
  pub uncommitted : CommitsNone moves → committed (past ++ deeds) ≡ committed past
  pub is : kind moves

-- the serial law of a client's database over this list: the committed transactions, ordinary ones and REFRAGMENTs, one after another over the whole relations, give the answers that were given and, under the catalogue in force, what the settled fragments rebuild
abbrev pub ListServedIsSerial : Database → Type 0
ListServedIsSerial db = (whole : Relations) (machines : Machines) (past : List (Deed (language db))) → IsListServed db whole machines past → IsSerialList local (statements db) whole (world_of db machines [] past)

-- so by what was asked for and heard
abbrev pub ListHeardIsSerial : Database → Type 0
ListHeardIsSerial db = (whole : Relations) (machines : Machines) (entries : List Entry) (past : List (Deed (language db))) → Tells db entries past → IsListServed db whole machines past → IsSerialRun db whole machines entries
