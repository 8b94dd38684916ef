-- The INSERT of a row.
use Rattle.std.specs.Prelude.{ℕ, List}
use Rattle.terms.specs.declared.value.Value.{Value}
use Rattle.meaning.specs.declared.statement.Statement.{Statement}
use Rattle.meaning.specs.declared.statement.Statement.TheVariants as statements

-- the INSERT of a row into the relation of this name
abbrev pub insert_of : List ℕ → List Value → Statement
insert_of name row = statements.Insert (record { into = name; row = row })
