-- Calls of one client whatever becomes of their letters: all is quiet again, or the transaction is ready for more.
use Rattle.std.specs.Prelude.{◌≡◌, ◌⊎◌, Bool, true, List, [], ◌∷◌, ◌++◌, map}
use Rattle.meaning.specs.declared.answer.Answer.{Answer as AnswerNow}
use Rattle.meaning.specs.declared.statement.Statement.{Statement}
use Rattle.meaning.specs.Whole.{Relations}
use Rattle.store.specs.Content.{Content}
use Rattle.protocol.specs.Client.{IsQuiet}
use Rattle.protocol.specs.Desk.{Choice, Commit_call, Deed, Rollback, State, desk_after, is_desk_within, on_request}
use Rattle.protocol.specs.Language.{Name}
use Rattle.desk.specs.declared.reply.Notice.{Notice}
use Rattle.desk.specs.declared.reply.Reply.TheVariants.{Answer}
use Rattle.desk.specs.Database.{Database, IsOrdinary, language}
use Rattle.desk.specs.Place.{Place}
use Rattle.desk.specs.State.{desk_of, notice_of}
use Rattle.world.specs.Mailbox.{Serves, To_do}
use Rattle.world.specs.Machines.{Machines}
use Rattle.world.specs.Client.{IsServed, is_end, tells}
use Rattle.world.specs.Smoothly.{IsReady, rests}

-- served machines, call by call, whatever is refused on the way: a statement is answered and its transaction ready for more,
-- or the transaction has ended, its client hears so, and all is quiet; and after a commit or a rollback all is quiet
pub record GrowsQuiet (db : Database) (fits : Place → Content → Bool) : Type 0 where
  pub states : (whole : Relations) (before after : Machines) (past : List (Deed (language db))) (txn : Name) (statement : Statement) (choice : Choice (language db)) (heard : List Notice) → IsServed db whole before past →
      IsReady db fits txn before past → IsOrdinary db statement →
      is_desk_within (desk_after (desk_of db before.table) txn (on_request txn choice (State (before.table.version, statement)) ((desk_of db before.table).txn txn)).txn) ≡ true →
      (serves : Serves db (To_do txn (State (before.table.version, statement)) choice) before after heard) →
      (IsReady db fits txn after (past ++ serves.deeds) × ((answer : AnswerNow) × (map notice_of heard ≡ (txn, Answer answer) ∷ []))) ⊎ (IsQuiet (rests db after (past ++ serves.deeds)) × (tells is_end heard ≡ true))
  pub commits : (whole : Relations) (before after : Machines) (past : List (Deed (language db))) (txn : Name) (choice : Choice (language db)) (heard : List Notice) → IsServed db whole before past →
      IsReady db fits txn before past → (serves : Serves db (To_do txn Commit_call choice) before after heard) →
      IsQuiet (rests db after (past ++ serves.deeds))
  pub rolls_back : (whole : Relations) (before after : Machines) (past : List (Deed (language db))) (txn : Name) (choice : Choice (language db)) (heard : List Notice) → IsServed db whole before past →
      IsReady db fits txn before past → (serves : Serves db (To_do txn Rollback choice) before after heard) →
      IsQuiet (rests db after (past ++ serves.deeds))
