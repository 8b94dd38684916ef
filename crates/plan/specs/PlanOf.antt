-- Plans of statements.
use Rattle.std.specs.Prelude.{List}
use Rattle.std.specs.List.{Contains}
use Rattle.meaning.specs.declared.statement.Statement.{Statement}
use Rattle.meaning.specs.Statement.{IsStatementOf}
use Rattle.catalog.specs.Catalogue.{Catalogue}
use Rattle.catalog.specs.FragmentLeaf.{schemas_of}
use Rattle.plan.specs.declared.fetch.Fetch as fetch
use Rattle.plan.specs.Reduced.{FindsAll, is_fetched, reduced}
use Rattle.plan.specs.Shape.{Shape}
use Rattle.plan.specs.Stated.{AreFetchesOf}
use Rattle.plan.specs.Uniform.{EachRead, IsUniform}

-- a plan without the reads of leaves that aren't fetched: it finds what its statement is to find, each of its reads is one of the fetches, and both sides of each of its unions have the same columns
pub record IsReduced (catalogue : Catalogue) (statement : Statement) (fetches : List fetch.Fetch) (plan : Shape) : Type 0 where
  pub finds : FindsAll catalogue statement fetches plan
  pub fetched : EachRead (λ read. Contains fetches read) plan
  pub uniform : IsUniform plan

-- a plan of a statement is such a one once the other reads are left out
abbrev pub IsPlanOf : Catalogue → Statement → Shape → Type 0
IsPlanOf catalogue statement plan =
    (fetches : List fetch.Fetch) → IsStatementOf (schemas_of catalogue) statement → AreFetchesOf catalogue statement fetches → IsReduced catalogue statement fetches (reduced (is_fetched fetches) plan)
