-- Transactions that a client hands over at once, run one after another.
use Rattle.std.specs.Prelude.{◌≡◌, ◌⊎◌, Bool, true, false, List, [], ◌∷◌, ◌++◌, map}
use Rattle.std.specs.List.{list_any}
use Rattle.meaning.specs.Whole.{Relations}
use Rattle.store.specs.declared.name.Txn.{Txn}
use Rattle.protocol.specs.Desk.{Deed}
use Rattle.desk.specs.Database.{Database, language}
use Rattle.world.specs.declared.event.Call as calls
use Rattle.world.specs.declared.event.Call.TheVariants as call
use Rattle.world.specs.declared.transaction.Came as cames
use Rattle.world.specs.declared.transaction.Came.TheVariants.{Heard, Refused}
use Rattle.world.specs.declared.transaction.End as ends
use Rattle.world.specs.declared.transaction.End.TheVariants as end
use Rattle.world.specs.declared.transaction.Outcome as outcomes
use Rattle.world.specs.declared.transaction.Outcome.TheVariants.{Ran, Unbegun}
use Rattle.world.specs.declared.transaction.Transaction.{Transaction}
use Rattle.world.specs.Client.{IsServed, IsServedOn, is_commit, is_end, tells}
use Rattle.world.specs.Course.{Begins, Commits, Move, Refuses, Rolls_back, States}
use Rattle.world.specs.Frame.{HasMade}
use Rattle.world.specs.Machines.{Machines}

-- the calls that ask for the end of a transaction: where a commit is refused it is rolled back
abbrev pub calls_of_end : ends.End → Txn → List calls.Call
calls_of_end end.Commit txn = call.Commit txn ∷ call.Rollback txn ∷ []
calls_of_end end.Rollback txn = call.Rollback txn ∷ []

-- the calls of a transaction that has begun: its texts in their order, and its end
abbrev pub calls_of : Transaction → Txn → List calls.Call
calls_of transaction txn = map (λ text. call.State txn text) transaction.texts ++ calls_of_end transaction.end txn

-- whether a transaction has ended by a call: its client heard so, or had asked for it
abbrev pub has_ended : calls.Call → cames.Came → Bool
has_ended asked (Refused refusal) = false
has_ended (call.State txn text) (Heard heard) = tells is_end heard
has_ended asked (Heard heard) = true

-- whether its client heard that it was committed
abbrev pub tells_commit : cames.Came → Bool
tells_commit (Refused refusal) = false
tells_commit (Heard heard) = tells is_commit heard

abbrev pub is_committed : outcomes.Outcome → Bool
is_committed (Unbegun refusal) = false
is_committed (Ran course) = list_any tells_commit course.came

-- ---- a run of transactions
-- the move of a call of a transaction that has begun, of which this came
abbrev pub moved : calls.Call → cames.Came → List Move
moved asked (Refused refusal) = Refuses asked refusal ∷ []
moved (call.State txn text) (Heard heard) = States txn text heard ∷ []
moved (call.Commit txn) (Heard heard) = Commits txn heard ∷ []
moved (call.Rollback txn) (Heard heard) = Rolls_back txn heard ∷ []
moved other (Heard heard) = []

-- calls are made one after another, until their transaction has ended; these are their moves. ended: whether it has
abbrev pub Makes : List calls.Call → List cames.Came → Bool → List Move → Type 0
Makes [] [] ended moves = (ended ≡ false) × (moves ≡ [])
Makes [] (first ∷ others) ended moves = ⊥
Makes (asked ∷ rest) [] ended moves = ⊥
Makes (asked ∷ rest) (first ∷ others) ended moves = (more : List Move) × (moves ≡ moved asked first ++ more)
    × (((has_ended asked first ≡ true) × (ended ≡ true) × (others ≡ []) × (more ≡ [])) ⊎ ((has_ended asked first ≡ false) × Makes rest others ended more))

-- calls are made after others, of which this came
pub record MakesMore (asked : List calls.Call) (came all : List cames.Came) (moves : List Move) : Type 0 where
  pub more : List cames.Came
  pub ended : Bool
  pub makes : Makes asked more ended moves
  pub is : all ≡ came ++ more

-- a transaction is run: it begins, and its calls are made
abbrev pub RunsOne : Transaction → outcomes.Outcome → List Move → Type 0
RunsOne transaction (Unbegun refusal) moves = moves ≡ Refuses call.Begin refusal ∷ []
RunsOne transaction (Ran course) moves = (more : List Move) × (moves ≡ Begins course.txn course.greeted ∷ more) × ((ended : Bool) × Makes (calls_of transaction course.txn) course.came ended more)

-- so transactions, one after another
abbrev pub RunsAll : List Transaction → List outcomes.Outcome → List Move → Type 0
RunsAll [] [] moves = moves ≡ []
RunsAll [] (first ∷ others) moves = ⊥
RunsAll (transaction ∷ rest) [] moves = ⊥
RunsAll (transaction ∷ rest) (first ∷ others) moves = (one : List Move) × (more : List Move) × (moves ≡ one ++ more) × RunsOne transaction first one × RunsAll rest others more

-- one of the transactions is stopped, after those before it were run; whatever it has done, the machines are served on
pub record StopsAt (db : Database) (transactions : List Transaction) (done : List outcomes.Outcome) (before after : Machines) : Type 0 where
  pub front : List Transaction
  pub at : Transaction
  pub back : List Transaction
  pub is : transactions ≡ front ++ at ∷ back
  pub middle : Machines
  pub ran : HasMade db before middle (RunsAll front done)
  pub on : (whole : Relations) (past : List (Deed (language db))) → IsServed db whole middle past → IsServedOn db whole after past
