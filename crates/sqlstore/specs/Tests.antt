-- The tests that statements put to rows, as SQL has them.
use Rattle.std.specs.Prelude.{ℕ, Bool, List, [], ◌∷◌}
use Rattle.std.specs.List.{list_all}
use Rattle.sqlite.specs.Collation.TheVariants.{Binary}
use Rattle.sqlite.specs.Order.{Row}
use Rattle.sqlite.specs.Term.{Term, lit, col, op2, holds, eval_all}
use Rattle.sqlite.specs.declared.types.Value.TheVariants.{Blob}
use Rattle.sqlite_sql.specs.declared.ops.BinaryOp.TheVariants.{Compare}
use Rattle.sqlite_sql.specs.declared.ops.CompareOp.TheVariants.{Eq, Ne}

-- a column of the row equals a parameter
abbrev pub equals : ℕ → ℕ → Term
equals column parameter = op2 (Compare Eq Binary) (col 1 column) (col 0 parameter)

-- of the table of parts: the leaf and the key
abbrev pub at_slot : List Term
at_slot = equals 1 0 ∷ equals 2 1 ∷ []

-- of the table of parts: the leaf
abbrev pub of_leaf : List Term
of_leaf = equals 1 0 ∷ []

-- of the tables of prepared rows and of intents: the ticket
abbrev pub of_visit : List Term
of_visit = equals 1 0 ∷ equals 2 1 ∷ []

-- of the table of intents: those of a ticket that put a part
abbrev pub puts_of_visit : List Term
puts_of_visit = equals 1 0 ∷ equals 2 1 ∷ op2 (Compare Ne Binary) (col 1 5) (lit (Blob [])) ∷ []

-- whether a row passes each term
abbrev pub passes : List Term → Row → Row → Bool
passes terms params row = list_all (holds (params ∷ row ∷ [])) terms

-- what terms show of a row
abbrev pub shown : List Term → Row → Row → Row
shown terms params row = eval_all terms (params ∷ row ∷ [])
