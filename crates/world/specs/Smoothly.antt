-- A call of one client whose letters all come smoothly: what it leads to.
use Rattle.std.specs.Prelude.{◌≡◌, ◌⊎◌, Bool, true, List, [], ◌∷◌, ◌++◌, map}
use Rattle.meaning.specs.declared.answer.Answer.{Answer as AnswerNow}
use Rattle.meaning.specs.declared.statement.Statement.{Statement}
use Rattle.meaning.specs.Whole.{Relations}
use Rattle.store.specs.Content.{Content}
use Rattle.protocol.specs.Client.{IsQuiet}
use Rattle.protocol.specs.Desk.{Choice, Commit_call, Deed, Rollback, State, desk_after, desk_began, is_desk_within, next_txn, on_request}
use Rattle.protocol.specs.Language.{Name}
use Rattle.protocol.specs.WithoutRefusal.{Ready}
use Rattle.protocol.specs.World.{World}
use Rattle.desk.specs.declared.reply.Notice.{Notice}
use Rattle.desk.specs.declared.reply.Reply.TheVariants.{Answer, Begun, Committed, RolledBack}
use Rattle.desk.specs.Database.{Database, IsOrdinary, language}
use Rattle.desk.specs.Place.{Place}
use Rattle.desk.specs.State.{desk_of, notice_of}
use Rattle.protocol.specs.Delivery.{AllSmooth}
use Rattle.world.specs.Mailbox.{Ask, Coming, Serves, To_begin, To_do, WasHindered, asked}
use Rattle.world.specs.Machines.{Machines, world_of}
use Rattle.world.specs.Client.{IsServed}

module _ (db : Database) where
  -- the world of these machines, where no letter waits
  abbrev pub rests : Machines → List (Deed (language db)) → World (language db)
  rests machines past = world_of db machines [] past

  -- a transaction is ready for more, under the catalogue in force. fits: which contents fit their places
  abbrev pub IsReady : (Place → Content → Bool) → Name → Machines → List (Deed (language db)) → Type 0
  IsReady fits txn machines past = Ready (language db) machines.table.version fits txn (rests machines past)

  -- so are all letters of a call
  abbrev pub AreSmooth : Ask (language db) → Machines → List (Deed (language db)) → List (Coming (language db)) → Type 0
  AreSmooth ask before past comings = AllSmooth comings (asked ask (rests before past))

-- served machines, call by call, where all letters come smoothly: a transaction begins where all is quiet, each statement is answered, and a commit is told, after which all is quiet again
pub record ServesSmoothly (db : Database) (fits : Place → Content → Bool) : Type 0 where
  pub begins : (whole : Relations) (before after : Machines) (past : List (Deed (language db))) (heard : List Notice) → IsServed db whole before past → IsQuiet (rests db before past) →
      is_desk_within (desk_began (desk_of db before.table)) ≡ true → (serves : Serves db To_begin before after heard) →
      IsReady db fits (next_txn (desk_of db before.table)) after (past ++ serves.deeds) × (map notice_of heard ≡ (next_txn (desk_of db before.table), Begun) ∷ [])
  pub answers : (whole : Relations) (before after : Machines) (past : List (Deed (language db))) (txn : Name) (statement : Statement) (choice : Choice (language db)) (heard : List Notice) → IsServed db whole before past →
      IsReady db fits txn before past → IsOrdinary db statement →
      is_desk_within (desk_after (desk_of db before.table) txn (on_request txn choice (State (before.table.version, statement)) ((desk_of db before.table).txn txn)).txn) ≡ true →
      (serves : Serves db (To_do txn (State (before.table.version, statement)) choice) before after heard) → AreSmooth db (To_do txn (State (before.table.version, statement)) choice) before past serves.comings →
      IsReady db fits txn after (past ++ serves.deeds) × ((answer : AnswerNow) × (map notice_of heard ≡ (txn, Answer answer) ∷ []))
  pub commits : (whole : Relations) (before after : Machines) (past : List (Deed (language db))) (txn : Name) (choice : Choice (language db)) (heard : List Notice) → IsServed db whole before past →
      IsReady db fits txn before past → (serves : Serves db (To_do txn Commit_call choice) before after heard) → AreSmooth db (To_do txn Commit_call choice) before past serves.comings →
      IsQuiet (rests db after (past ++ serves.deeds)) × (map notice_of heard ≡ (txn, Committed) ∷ [])
  pub rolls_back : (whole : Relations) (before after : Machines) (past : List (Deed (language db))) (txn : Name) (choice : Choice (language db)) (heard : List Notice) → IsServed db whole before past →
      IsReady db fits txn before past → (serves : Serves db (To_do txn Rollback choice) before after heard) → AreSmooth db (To_do txn Rollback choice) before past serves.comings →
      IsQuiet (rests db after (past ++ serves.deeds)) × (map notice_of heard ≡ (txn, RolledBack) ∷ [])

-- so whatever comes: a statement is answered, and a commit told, unless something was refused on the way
pub record ServesUnlessRefused (db : Database) (fits : Place → Content → Bool) : Type 0 where
  pub answers : (whole : Relations) (before after : Machines) (past : List (Deed (language db))) (txn : Name) (statement : Statement) (choice : Choice (language db)) (heard : List Notice) → IsServed db whole before past →
      IsReady db fits txn before past → IsOrdinary db statement →
      is_desk_within (desk_after (desk_of db before.table) txn (on_request txn choice (State (before.table.version, statement)) ((desk_of db before.table).txn txn)).txn) ≡ true →
      (serves : Serves db (To_do txn (State (before.table.version, statement)) choice) before after heard) →
      (IsReady db fits txn after (past ++ serves.deeds) × ((answer : AnswerNow) × (map notice_of heard ≡ (txn, Answer answer) ∷ []))) ⊎ WasHindered past serves
  pub commits : (whole : Relations) (before after : Machines) (past : List (Deed (language db))) (txn : Name) (choice : Choice (language db)) (heard : List Notice) → IsServed db whole before past →
      IsReady db fits txn before past → (serves : Serves db (To_do txn Commit_call choice) before after heard) →
      (IsQuiet (rests db after (past ++ serves.deeds)) × (map notice_of heard ≡ (txn, Committed) ∷ [])) ⊎ WasHindered past serves
  pub rolls_back : (whole : Relations) (before after : Machines) (past : List (Deed (language db))) (txn : Name) (choice : Choice (language db)) (heard : List Notice) → IsServed db whole before past →
      IsReady db fits txn before past → (serves : Serves db (To_do txn Rollback choice) before after heard) →
      (IsQuiet (rests db after (past ++ serves.deeds)) × (map notice_of heard ≡ (txn, RolledBack) ∷ [])) ⊎ WasHindered past serves
