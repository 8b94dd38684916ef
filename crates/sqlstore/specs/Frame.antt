-- What calls on the tables of a store leave, and why readers of rows fail.
use Rattle.std.specs.Borrow.{MutBor}
use Rattle.std.specs.Prelude.{◌≡◌, ◌≢◌, ◌≤◌, ◌⊎◌, ℕ, false, Result, Err, IfOk, OnOk, OnErr, IsTrue, List, Option}
use Rattle.sqlite.specs.Effect.{Database}
use Rattle.sqlite.specs.Given.{Advances}
use Rattle.sqlite.specs.Held.{Held, state}
use Rattle.sqlite.specs.Order.{Row}
use Rattle.sqlite.specs.Schema.{Schema}
use Rattle.sqlite.specs.State.{State, HasCleanDisk, IsUnchanged, KeepsCommit, Survives}
use Rattle.sqlite.specs.Store.{Ghosts}
use Rattle.sqlite.specs.declared.error.Error.{Error}
use Rattle.store.specs.Fault.{HasRefused}
use Rattle.store.specs.declared.fault.StoreFault.{StoreFault}
use Rattle.store.specs.declared.fault.StoreFault.TheVariants.{Refused, Damaged}
use Rattle.terms.specs.declared.leaf.Leaf.{Leaf}
use Rattle.sqlstore.specs.Fresh.{MayFoundOf}
use Rattle.sqlstore.specs.Query.{QueriesOf, LeavesNothingOf}
use Rattle.sqlstore.specs.Rows.{AreTablesOf, HasSchema}
use Rattle.sqlstore.specs.Step.{StepsOn, MayLeaveOf}
use Rattle.sqlstore.specs.Tables.{no_schema, site_schema}
use Rattle.sqlstore.specs.Walk.{AreParts}

-- a statement runs within a transaction, which stays the same: where the disk is clean it makes this of tables that are known, and a crash finds nothing of it
pub record RunsWithin {S A : Type 0} (g : Ghosts S) (Known : Database → Type 0) (P : Database → Database → Type 0) (old new : MutBor (Held S)) (result : Result A Error) : Type 0 where
  pub same_reference : new.ghost_name ≡ old.ghost_name
  pub does : HasCleanDisk (state g new.now) → IsTrue (state g old.now).in_transaction → StepsOn Known P (state g old.now) (state g new.now) result
  pub survives : Survives (state g old.now) (state g new.now) (λ _. ⊥)

-- a query, in a transaction or outside: where the disk is clean it changes nothing and shows this of tables that are known
pub record Asks {A : Type 0} (Known : Database → Type 0) (P : Database → A → Type 0) (old new : State) (result : Result A Error) : Type 0 where
  pub does : HasCleanDisk new → QueriesOf Known P old new result
  pub clean : HasCleanDisk new → HasCleanDisk old
  pub mode : old.in_transaction ≡ false → new.in_transaction ≡ false
  pub survives : Survives old new (LeavesNothingOf Known old)

-- a call stays outside of transactions, and a connection that is clean and open after it was so before
pub record StaysOutside (old new : State) : Type 0 where
  pub clean : HasCleanDisk new → HasCleanDisk old
  pub was_open : HasCleanDisk new → IsTrue new.is_open → IsTrue old.is_open
  pub mode : new.in_transaction ≡ false

-- a call is a transaction: it answers having made this of what is committed, on a connection that is still open, or fails and leaves that; a crash finds one or the other
pub record Commits {A : Type 0} (own : Schema) (P : Database → Database → Type 0) (old new : State) (result : Result A Error) : Type 0 where
  pub done : HasCleanDisk new → AreTablesOf own old.committed → OnOk result (P old.committed new.committed)
  pub answers : HasCleanDisk new → OnOk result (IsTrue new.is_open)
  pub unchanged : HasCleanDisk new → IsTrue new.is_open → AreTablesOf own old.committed → OnErr result (new.committed ≡ old.committed)
  pub outside : StaysOutside old new
  pub crash : Survives old new (MayLeaveOf own P old)

-- a call looks at what is committed, and then is such a transaction or leaves it; what it has made goes with its answer
pub record LooksAndCommits {A : Type 0} (own : Schema) (P : A → Database → Database → Type 0) (May : Database → Database → Type 0) (old new : State) (result : Result A Error) : Type 0 where
  pub done : HasCleanDisk new → IsTrue new.is_open → AreTablesOf own old.committed → IfOk result (λ answer. P answer old.committed new.committed)
  pub unchanged : HasCleanDisk new → IsTrue new.is_open → AreTablesOf own old.committed → OnErr result (new.committed ≡ old.committed)
  pub outside : StaysOutside old new
  pub crash : Survives old new (MayLeaveOf own May old)

-- a call is a transaction that makes new tables where there is nothing
pub record CreatesTables {A : Type 0} (IsNew : Database → Type 0) (old new : State) (result : Result A Error) : Type 0 where
  pub done : HasCleanDisk new → HasSchema no_schema old.committed → OnOk result (IsNew new.committed)
  pub unchanged : HasCleanDisk new → IsTrue new.is_open → OnErr result (new.committed ≡ old.committed)
  pub outside : StaysOutside old new
  pub crash : Survives old new (MayFoundOf IsNew old)

-- a call makes new tables where there is nothing, takes tables of this schema as they are, and finds any other damaged
pub record FoundsTables {A : Type 0} (own : Schema) (Founds : Database → Database → Type 0) (old new : State) (result : Result A StoreFault) : Type 0 where
  pub founds : HasCleanDisk new → IsTrue new.is_open → OnOk result (Founds old.committed new.committed)
  pub unchanged : HasCleanDisk new → IsTrue new.is_open → OnErr result (new.committed ≡ old.committed)
  pub intact : HasCleanDisk new → IsTrue new.is_open → HasSchema own old.committed ⊎ HasSchema no_schema old.committed → result ≢ Err Damaged
  pub outside : StaysOutside old new

-- a call outside of a transaction looks at what is committed: where the tables are known it leaves them, and this is shown of them
pub record LooksAt {A E : Type 0} (Known : Database → Type 0) (P : Database → A → Type 0) (old new : State) (result : Result A E) : Type 0 where
  pub outside : StaysOutside old new
  pub same : HasCleanDisk new → IsTrue new.is_open → Known old.committed → new.committed ≡ old.committed
  pub shows : HasCleanDisk new → IsTrue new.is_open → Known old.committed → IfOk result (P old.committed)

-- a query's next row is read, or there is none: nothing is committed, and where the call answers nothing has changed
pub record ReadsOn {S E : Type 0} (g : Ghosts S) (old new : MutBor (Held S)) (result : Result (Option Row) E) : Type 0 where
  pub same_reference : new.ghost_name ≡ old.ghost_name
  pub mode : old.now.in_transaction ≡ false → new.now.in_transaction ≡ false
  pub clean : HasCleanDisk (state g new.now) → HasCleanDisk (state g old.now)
  pub kept : HasCleanDisk (state g new.now) → KeepsCommit (state g old.now) (state g new.now)
  pub same : HasCleanDisk (state g new.now) → OnOk result (IsUnchanged (state g old.now) (state g new.now))
  pub gives : HasCleanDisk (state g new.now) → IfOk result (Advances g old.now new.now)

-- refusals are counted: none is forgotten, and a call that says so has met one more
pub record CountsRefusals {A : Type 0} (old new : ℕ) (result : Result A StoreFault) : Type 0 where
  pub counts : old ≤ new
  pub refusal : result ≡ Err Refused → HasRefused old new

-- a call walks through all parts of a site, and finds damage only where they aren't as the store leaves them
pub record WalksParts {A : Type 0} (leaves : List Leaf) (P : Database → A → Type 0) (old new : State) (result : Result A StoreFault) : Type 0 where
  pub looks : LooksAt (HasSchema site_schema) P old new result
  pub intact : HasCleanDisk new → IsTrue new.is_open → HasSchema site_schema old.committed → AreParts leaves (old.committed.trees 0) → result ≢ Err Damaged

-- a reader of rows is never refused, and finds damage only where they aren't so
pub record FailsUnless {A : Type 0} (AreSo : Type 0) (result : Result A StoreFault) : Type 0 where
  pub intact : AreSo → result ≢ Err Damaged
  pub kept : result ≢ Err Refused

-- such a reader answers only where they are so
pub record Tests {A : Type 0} (AreSo : Type 0) (result : Result A StoreFault) : Type 0 where
  pub learnt : OnOk result AreSo
  pub intact : AreSo → result ≢ Err Damaged
  pub kept : result ≢ Err Refused
