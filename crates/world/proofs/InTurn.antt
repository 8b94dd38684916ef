-- The committed transactions of a serial run answer in turn.
use Rattle.std.proofs.Common.{◌≡◌, sym, ◌∙◌, subst, List, [], ◌∷◌, map}
use Rattle.meaning.specs.declared.statement.Statement.{Statement}
use Rattle.meaning.specs.Whole.{Relations}
use Rattle.store.specs.declared.name.Txn.{Txn}
use Rattle.desk.specs.Database.{Database}
use Rattle.world.specs.declared.event.Entry.{Entry}
use Rattle.world.specs.declared.committed.Committed.{Committed}
use Rattle.world.specs.Committed.{AnswerInTurn, AreStatedBy, committed_of}
use Rattle.world.specs.Machines.{Machines}
use Rattle.world.specs.Runs.{AreTexts, IsSerialRun}
use Rattle.world.specs.Replies.{committed_in, texts_of}
use Rattle.world.proofs.Heard.{map_twice}

stated_by_all : (db : Database) (entries : List Entry) (statements : Txn → List Statement) → ((txn : Txn) → AreTexts db (texts_of entries txn) (statements txn)) → (txns : List Txn) → AreStatedBy db (map (committed_of entries) txns) (map statements txns)
stated_by_all db entries statements spelled [] = tt
stated_by_all db entries statements spelled (txn ∷ txns) = (spelled txn, stated_by_all db entries statements spelled txns)

pub in_turn : (db : Database) (whole : Relations) (machines : Machines) (entries : List Entry) (all : List Committed) → all ≡ map (committed_of entries) (committed_in entries) → IsSerialRun db whole machines entries → AnswerInTurn db whole all
in_turn db whole machines entries all is so = subst (AnswerInTurn db whole) (sym is) (record {
  statements = map so.statements (committed_in entries);
  stated = stated_by_all db entries so.statements so.spelled (committed_in entries);
  answers = map_twice (λ (one : Committed). one.answers) (committed_of entries) (committed_in entries) ∙ so.answers;
})
