-- Committed transactions: their statements' texts and their answers.
use Rattle.std.specs.Prelude.{◌≡◌, List, [], ◌∷◌, map}
use Rattle.meaning.specs.declared.statement.Statement.{Statement}
use Rattle.meaning.specs.Whole.{Relations}
use Rattle.store.specs.declared.name.Txn.{Txn}
use Rattle.desk.specs.Database.{Database}
use Rattle.world.specs.declared.event.Entry.{Entry}
use Rattle.world.specs.declared.committed.Committed.{Committed}
use Rattle.world.specs.Runs.{AreTexts, answers_after}
use Rattle.world.specs.Replies.{answers_to, texts_of}

-- what entries tell of a transaction
abbrev pub committed_of : List Entry → Txn → Committed
committed_of entries txn = record { txn = txn; texts = texts_of entries txn; answers = answers_to entries txn }

-- the texts of transactions are those of their statements, one by one
abbrev pub AreStatedBy : (db : Database) → List Committed → List (List Statement) → Type 0
AreStatedBy db [] [] = Unit
AreStatedBy db [] (ss ∷ rest) = ⊥
AreStatedBy db (one ∷ all) [] = ⊥
AreStatedBy db (one ∷ all) (ss ∷ rest) = AreTexts db one.texts ss × AreStatedBy db all rest

-- transactions answered as their statements do, one transaction after another over whole relations
pub record AnswerInTurn (db : Database) (whole : Relations) (all : List Committed) : Type 0 where
  pub statements : List (List Statement)
  pub stated : AreStatedBy db all statements
  pub answers : map (λ one. one.answers) all ≡ answers_after db statements whole
