-- Where one client's database stands between commands, and what its calls come to there, unless something is refused on the way.
use Rattle.std.specs.Prelude.{◌≡◌, ◌⊎◌, ℕ, Bool, List, [], ◌∷◌, ◌++◌, map, Option, Some, None}
use Rattle.meaning.specs.declared.answer.Answer.{Answer as AnswerNow}
use Rattle.meaning.specs.Whole.{Relations}
use Rattle.store.specs.Content.{Content}
use Rattle.store.specs.declared.name.Txn.{Txn}
use Rattle.protocol.specs.Client.{IsQuiet}
use Rattle.protocol.specs.Desk.{Commit_call, Deed, Rollback}
use Rattle.protocol.specs.Letters.{txn_name}
use Rattle.desk.specs.declared.reply.Notice.{Notice}
use Rattle.desk.specs.declared.reply.Reply.TheVariants.{Answer, Begun, Committed, RolledBack}
use Rattle.desk.specs.Database.{Database, language}
use Rattle.desk.specs.Place.{Place}
use Rattle.desk.specs.State.{notice_of}
use Rattle.world.specs.Mailbox.{WasHindered}
use Rattle.world.specs.Machines.{Machines, world_of}
use Rattle.world.specs.Client.{DoesAsk, DoesBegin, DoesState, IsServed}
use Rattle.protocol.specs.WithoutRefusal.{Ready}

module _ (db : Database) (fits : Place → Content → Bool) where
  -- where a client's database stands between commands: all is quiet, or its open transaction is ready
  abbrev pub Stands : Option Txn → Machines → List (Deed (language db)) → Type 0
  Stands None machines past = IsQuiet (world_of db machines [] past)
  Stands (Some txn) machines past = Ready (language db) machines.table.version fits (txn_name txn) (world_of db machines [] past)

  -- it is served, and stands so, once more has been done
  pub record StandsOn (whole : Relations) (current : Option Txn) (machines : Machines) (past : List (Deed (language db))) : Type 0 where
    pub deeds : List (Deed (language db))
    pub served : IsServed db whole machines (past ++ deeds)
    pub stands : Stands current machines (past ++ deeds)

-- A client's database that stands, call by call: a transaction begins and is ready; unless something is refused on the way its statements
-- are answered, its commit is told, and so is a rollback, after which all is quiet.
pub record ObeysUnlessRefused (db : Database) (fits : Place → Content → Bool) : Type 0 where
  pub begins : (whole : Relations) (before after : Machines) (past : List (Deed (language db))) (txn : Txn) (heard : List Notice) → IsServed db whole before past → Stands db fits None before past → DoesBegin db before txn after heard →
      StandsOn db fits whole (Some txn) after past × (map notice_of heard ≡ (txn_name txn, Begun) ∷ [])
  pub states : (whole : Relations) (before after : Machines) (past : List (Deed (language db))) (text : List ℕ) (txn : Txn) (heard : List Notice) → IsServed db whole before past → Stands db fits (Some txn) before past →
      (does : DoesState db text txn before after heard) → (StandsOn db fits whole (Some txn) after past × ((answer : AnswerNow) × (map notice_of heard ≡ (txn_name txn, Answer answer) ∷ []))) ⊎ WasHindered past does.asks.serves
  pub commits : (whole : Relations) (before after : Machines) (past : List (Deed (language db))) (txn : Txn) (heard : List Notice) → IsServed db whole before past → Stands db fits (Some txn) before past →
      (does : DoesAsk db Commit_call txn before after heard) → (StandsOn db fits whole None after past × (map notice_of heard ≡ (txn_name txn, Committed) ∷ [])) ⊎ WasHindered past does.serves
  pub rolls_back : (whole : Relations) (before after : Machines) (past : List (Deed (language db))) (txn : Txn) (heard : List Notice) → IsServed db whole before past → Stands db fits (Some txn) before past →
      (does : DoesAsk db Rollback txn before after heard) → (StandsOn db fits whole None after past × (map notice_of heard ≡ (txn_name txn, RolledBack) ∷ [])) ⊎ WasHindered past does.serves
