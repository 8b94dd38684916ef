-- What queries of the coordinator's tables show, and what calls make of what they show.
use Rattle.std.specs.Prelude.{◌≡◌, ℕ, ◌+◌, ℤ, pos, List, [], ◌∷◌, Option, Some, None}
use Rattle.sqlite.specs.Edit.{id_in}
use Rattle.sqlite.specs.Effect.{Database}
use Rattle.sqlite.specs.Order.{Row, column}
use Rattle.sqlite.specs.Term.{Term, col}
use Rattle.sqlstore.specs.DeskStep.{MovesTo, Decides}
use Rattle.sqlstore.specs.DeskTables.{desk_schema}
use Rattle.sqlstore.specs.Query.{first_life}
use Rattle.sqlstore.specs.Rows.{Finds, HasSchema}
use Rattle.sqlstore.specs.Tests.{passes, shown}
use Rattle.sqlstore.specs.declared.decision.Decision.{Decision}

-- the schema is the coordinator's
abbrev pub HasDeskSchema : Database → Type 0
HasDeskSchema = HasSchema desk_schema

-- what the table of state says: the incarnation and the version
abbrev pub epoch_terms : List Term
epoch_terms = col 1 2 ∷ col 1 3 ∷ []

abbrev pub AreEpochs : List Row → List Row → Type 0
AreEpochs = Finds (shown epoch_terms []) (passes [] [])

-- the version that these say: the first where they say nothing
abbrev pub first_version : List Row → ℤ
first_version [] = pos 1
first_version (row ∷ rows) = id_in (column row 1)

-- a transaction is committed, and its version is in force; the incarnation stays
abbrev pub DecidesNow : Decision → Database → Database → Type 0
DecidesNow decision old new = (rows : List Row) × AreEpochs (old.trees 2) rows × Decides decision.txn decision.votes.items (first_life rows) decision.version old new

-- the incarnation after the one that is kept begins; the version stays
abbrev pub BeginsNext : ℕ → Database → Database → Type 0
BeginsNext next old new = (rows : List Row) × AreEpochs (old.trees 2) rows × (life : ℕ) × (first_life rows ≡ pos life) × (next ≡ life + 1) × MovesTo (pos next) (first_version rows) old new

-- so where a table holds a number more; else nothing is changed
abbrev pub BeginsIf : Option ℕ → Database → Database → Type 0
BeginsIf None old new = new ≡ old
BeginsIf (Some next) old new = BeginsNext next old new

-- the incarnation after the one that is kept begins, whichever that is
abbrev pub BeginsSome : Database → Database → Type 0
BeginsSome old new = (next : ℕ) × BeginsNext next old new
