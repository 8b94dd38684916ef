-- What a statement within a transaction does, and what calls leave.
use Rattle.std.specs.Prelude.{◌≡◌, ℕ, ℤ, Bool, true, List, [], ◌∷◌, Result, OnOk, IsTrue, string_bytes}
use Rattle.std.specs.List.{list_any}
use Rattle.sqlite.specs.Effect.{Database}
use Rattle.sqlite.specs.Order.{Row, column}
use Rattle.sqlite.specs.Schema.{Schema}
use Rattle.sqlite.specs.State.{State, Shows, KeepsCommit}
use Rattle.sqlite.specs.Tree.{Trees}
use Rattle.sqlite.specs.Values.{bound_value}
use Rattle.sqlite.specs.declared.error.Error.{Error}
use Rattle.sqlite.specs.declared.types.Value.TheVariants.{Null, Int, Text, Blob}
use Rattle.sqlstore.specs.declared.intent.Intent.{Intent}
use Rattle.sqlstore.specs.declared.visit.Visit.{Visit}
use Rattle.sqlstore.specs.Rows.{AreTablesOf, Rewrites, Loses, Gains}
use Rattle.sqlstore.specs.Tables.{site_schema}
use Rattle.sqlstore.specs.Tests.{at_slot, of_visit, puts_of_visit, passes}
use Rattle.sqlite_rules.specs.Lists.{Has}
use Rattle.sqlite.specs.Cast.{cast}
use Rattle.sqlite.specs.Kind.TheVariants as kinds

-- a statement commits nothing, and where it answers has made this of tables that are known
pub record StepsOn {A : Type 0} (Known : Database → Type 0) (P : Database → Database → Type 0) (old new : State) (result : Result A Error) : Type 0 where
  pub kept : KeepsCommit old new
  pub shows : OnOk result (Shows old new new.now old.committed true)
  pub does : Known old.now → OnOk result (P old.now new.now)

-- so over the tables of a store
abbrev pub StepsOf : {A : Type 0} → Schema → (Database → Database → Type 0) → State → State → Result A Error → Type 0
StepsOf own P old new result = StepsOn (AreTablesOf own) P old new result

-- so over a site's tables
abbrev pub Steps : {A : Type 0} → (Database → Database → Type 0) → State → State → Result A Error → Type 0
Steps P old new result = StepsOf site_schema P old new result

-- what a crash leaves is what was committed, with this made of it
abbrev pub MayLeaveOf : Schema → (Database → Database → Type 0) → State → Trees → Type 0
MayLeaveOf own P old trees = IsTrue old.is_open → AreTablesOf own old.committed → (new : Database) × P old.committed new × (trees ≡ new.trees)

-- so over a site's tables
abbrev pub MayLeave : (Database → Database → Type 0) → State → Trees → Type 0
MayLeave = MayLeaveOf site_schema

-- a ticket as parameters
abbrev pub visit_params : Visit → Row
visit_params visit = Int visit.life ∷ Int visit.visit ∷ []

-- a leaf and a key as parameters, as a query showed them
abbrev pub slot_params : Row → Row
slot_params slot = bound_value (column slot 0) ∷ bound_value (column slot 1) ∷ []

-- the part at a slot is taken out
abbrev pub Takes : Row → Database → Database → Type 0
Takes slot = Rewrites 0 (Loses (passes at_slot (slot_params slot)))

-- what an intent gives the table of parts: the leaf, the key and the body, as the columns take them
abbrev pub given : Row → Row
given intent = cast kinds.Text (column intent 3) ∷ cast kinds.Integer (column intent 4) ∷ cast kinds.Blob (column intent 5) ∷ []

-- the parts that a ticket's intents put are put in
abbrev pub Gives : Visit → Database → Database → Type 0
Gives visit old new = Rewrites 0 (Gains (λ cells. (intent : Row) × Has (old.trees 4) intent × (passes puts_of_visit (visit_params visit) intent ≡ true) × (cells ≡ given intent))) old new

-- a ticket's intents go
abbrev pub Clears : Visit → Database → Database → Type 0
Clears visit = Rewrites 4 (Loses (passes of_visit (visit_params visit)))

-- a ticket's prepared row goes
abbrev pub Forgets : Visit → Database → Database → Type 0
Forgets visit = Rewrites 2 (Loses (passes of_visit (visit_params visit)))

-- a ticket and its transaction as parameters
abbrev pub promise_params : Visit → Visit → Row
promise_params visit txn = Int visit.life ∷ Int visit.visit ∷ Int txn.life ∷ Int txn.visit ∷ []

-- a ticket is prepared, for a transaction
abbrev pub Promises : Visit → Visit → Database → Database → Type 0
Promises visit txn = Rewrites 2 (Gains (λ cells. cells ≡ promise_params visit txn))

-- an intent as parameters: the ticket, the leaf, the key and the body
abbrev pub intend_params : Visit → List ℕ → ℤ → List ℕ → Row
intend_params visit leaf key body = Int visit.life ∷ Int visit.visit ∷ Text leaf ∷ Int key ∷ Blob body ∷ []

-- a ticket intends this
abbrev pub Intends : Visit → List ℕ → ℤ → List ℕ → Database → Database → Type 0
Intends visit leaf key body = Rewrites 4 (Gains (λ cells. cells ≡ intend_params visit leaf key body))

-- no incarnation is kept
abbrev pub EndsLife : Database → Database → Type 0
EndsLife = Rewrites 6 (Loses (λ row. true))

-- an incarnation is kept
abbrev pub StartsLife : ℤ → Database → Database → Type 0
StartsLife life = Rewrites 6 (Gains (λ cells. cells ≡ Null ∷ Int life ∷ []))

-- one statement after another
abbrev pub Follows : (Database → Database → Type 0) → (Database → Database → Type 0) → Database → Database → Type 0
Follows First Second old new = (mid : Database) × First old mid × Second mid new

-- whether a part stands at one of these slots
abbrev pub is_at_some : List Row → Row → Bool
is_at_some slots part = list_any (λ slot. passes at_slot (slot_params slot) part) slots

-- a ticket's prepared row goes, and the parts at these slots
abbrev pub Empties : Visit → List Row → Database → Database → Type 0
Empties visit slots = Follows (Forgets visit) (Rewrites 0 (Loses (is_at_some slots)))

-- the parts that a ticket's intents put are put in, and the intents go
abbrev pub Fills : Visit → Database → Database → Type 0
Fills visit = Follows (Gives visit) (Clears visit)

-- a ticket's prepared row and its intents go
abbrev pub Drops : Visit → Database → Database → Type 0
Drops visit = Follows (Forgets visit) (Clears visit)

-- the incarnation is this
abbrev pub LivesOn : ℤ → Database → Database → Type 0
LivesOn life = Follows EndsLife (StartsLife life)

-- a ticket intends these
abbrev pub IntendsAll : Visit → List Intent → Database → Database → Type 0
IntendsAll visit intents = Rewrites 4 (Gains (λ cells. (intent : Intent) × Has intents intent × (cells ≡ intend_params visit (string_bytes intent.leaf) intent.key intent.body.items)))

-- a ticket is prepared for a transaction, and intends these
abbrev pub Keeps : Visit → Visit → List Intent → Database → Database → Type 0
Keeps visit txn intents = Follows (Promises visit txn) (IntendsAll visit intents)
