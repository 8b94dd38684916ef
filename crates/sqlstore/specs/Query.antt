-- What a query leaves, and what it shows.
use Rattle.std.specs.Prelude.{◌≡◌, ℕ, ◌+◌, ℤ, pos, Option, Some, None, Ok, Result, IfOk, OnOk, IsTrue, List, [], ◌∷◌}
use Rattle.sqlite.specs.Edit.{id_in}
use Rattle.sqlite.specs.Effect.{Database}
use Rattle.sqlite.specs.Order.{Row, bytes, column}
use Rattle.sqlite.specs.declared.types.Value.{Value}
use Rattle.sqlite.specs.declared.types.Value.TheVariants.{Int, Text, Blob}
use Rattle.terms.specs.declared.value.Value.{Value as Cell}
use Rattle.terms.specs.Stored.{part_from}
use Rattle.sqlstore.specs.Content.{decoded}
use Rattle.sqlite.specs.State.{State, KeepsCommit, Shows}
use Rattle.sqlite.specs.Tree.{Trees}
use Rattle.sqlite.specs.Term.{Term, col}
use Rattle.sqlite.specs.declared.error.Error.{Error}
use Rattle.sqlstore.specs.Rows.{AreTables, Finds}
use Rattle.sqlstore.specs.Step.{visit_params, Follows, Empties, Fills, LivesOn}
use Rattle.sqlstore.specs.Tests.{passes, shown, of_visit, at_slot}
use Rattle.sqlstore.specs.declared.visit.Visit.{Visit}

-- a query: it opens nothing and commits nothing, and where it answers nothing has changed, and this is shown of the tables, where they are known
pub record QueriesOf {A : Type 0} (Known : Database → Type 0) (P : Database → A → Type 0) (old new : State) (result : Result A Error) : Type 0 where
  pub was_open : IsTrue new.is_open → IsTrue old.is_open
  pub kept : Known old.now → KeepsCommit old new
  pub same : Known old.now → OnOk result (Shows old new old.now old.committed old.in_transaction)
  pub shows : Known old.now → IfOk result (P old.now)

-- so of a site's tables
abbrev pub Queries : {A : Type 0} → (Database → A → Type 0) → State → State → Result A Error → Type 0
Queries P old new result = QueriesOf AreTables P old new result

-- a crash leaves nothing else, where the tables are known
abbrev pub LeavesNothingOf : (Database → Type 0) → State → Trees → Type 0
LeavesNothingOf Known old trees = Known old.now → ⊥

-- so of a site's tables
abbrev pub LeavesNothing : State → Trees → Type 0
LeavesNothing = LeavesNothingOf AreTables

-- the leaf and the key of an intent
abbrev pub slot_terms : List Term
slot_terms = col 1 3 ∷ col 1 4 ∷ []

-- the slots of a ticket's intents
abbrev pub AreSlots : Visit → List Row → List Row → Type 0
AreSlots visit intents = Finds (shown slot_terms (visit_params visit)) (passes of_visit (visit_params visit)) intents

-- the parts at the slots of a ticket's intents go, those that the intents put are put in, and the ticket's rows go
abbrev pub Makes : Visit → Database → Database → Type 0
Makes visit old new = (slots : List Row) × AreSlots visit (old.trees 4) slots × Follows (Empties visit slots) (Fills visit) old new

-- what the table of incarnations says
abbrev pub life_terms : List Term
life_terms = col 1 2 ∷ []

abbrev pub AreLives : List Row → List Row → Type 0
AreLives = Finds (shown life_terms []) (passes [] [])

-- the incarnation that these say: none has begun where they say nothing
abbrev pub first_life : List Row → ℤ
first_life [] = pos 0
first_life (row ∷ rows) = id_in (column row 0)

-- the incarnation after the one that is kept begins
abbrev pub LivesNext : ℕ → Database → Database → Type 0
LivesNext next old new = (rows : List Row) × AreLives (old.trees 6) rows × (life : ℕ) × (first_life rows ≡ pos life) × (next ≡ life + 1) × LivesOn (pos next) old new

-- so where a table holds a number more; else nothing is changed
abbrev pub LivesIf : Option ℕ → Database → Database → Type 0
LivesIf None old new = new ≡ old
LivesIf (Some next) old new = LivesNext next old new

-- the incarnation after the one that is kept begins, whichever that is
abbrev pub LivesSome : Database → Database → Type 0
LivesSome old new = (next : ℕ) × LivesNext next old new

-- a leaf's name and a key as parameters
abbrev pub key_params : List ℕ → ℤ → Row
key_params name key = Text name ∷ Int key ∷ []

-- the bodies of the parts at a leaf and a key
abbrev pub body_terms : List Term
body_terms = col 1 3 ∷ []

abbrev pub AreBodies : List ℕ → ℤ → List Row → List Row → Type 0
AreBodies name key = Finds (shown body_terms (key_params name key)) (passes at_slot (key_params name key))

-- the part that the first of these spells; none where there is no row
abbrev pub first_part : List Row → Option (List Cell)
first_part [] = None
first_part (row ∷ rows) = Some (decoded (bytes (column row 0)))

-- a cell is a body that spells a part
pub record SpellsPart (cell : Value) : Type 0 where
  pub body : cell ≡ Blob (bytes cell)
  pub part : List Cell
  pub spelled : part_from (bytes cell) ≡ Ok part

-- so does the first of these, if there is one
abbrev pub SpellsFirst : List Row → Type 0
SpellsFirst [] = Unit {0}
SpellsFirst (row ∷ rows) = SpellsPart (column row 0)
