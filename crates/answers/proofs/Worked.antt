-- What the fetches of a statement brought makes the table of which its outcome is its meaning.
use Rattle.std.proofs.Common.{List, Result, Ok, Err, IfOk, ◌∙◌}
use Rattle.std.specs.List.{AllByRecursion, Contains}
use Rattle.terms.specs.declared.leaf.Leaf.{Leaf}
use Rattle.terms.specs.declared.memory.Memory.{Memory}
use Rattle.terms.specs.declared.value.Value.{Value}
use Rattle.meaning.specs.declared.statement.Statement.{Statement}
use Rattle.meaning.specs.Statement.{IsStatementOf}
use Rattle.meaning.specs.Whole.{FitsSchema, Relations}
use Rattle.catalog.specs.Catalogue.{Catalogue}
use Rattle.catalog.specs.Formed.{IsFormed}
use Rattle.catalog.specs.FragmentLeaf.{schemas_of}
use Rattle.plan.specs.declared.fetch.Fetch as fetch
use Rattle.plan.specs.Given.{AreBrought, BroughtIsRead, ReadsGive}
use Rattle.plan.specs.Need.{needs}
use Rattle.plan.specs.Reduced.{FindsAll, is_fetched}
use Rattle.plan.specs.Shape.{Shape, Empty, Fetch, Filter, Project, Union, KeyJoin, Lookup}
use Rattle.plan.specs.Stated.{AreFetchesOf}
use Rattle.plan.specs.Uniform.{EachRead}
use Rattle.plan.proofs.Fetched.{of_all}
use Rattle.answers.specs.declared.finish.Outcome.{Outcome}
use Rattle.answers.specs.Laid.{Table}
use Rattle.answers.specs.Table.{HasRows, IsTableOf}

-- what holds of all fetches holds of each read of a plan that reads them alone
pub each_read : (P : fetch.Fetch → Type 0) (fetches : List fetch.Fetch) (plan : Shape) → AllByRecursion P fetches → EachRead (λ read. Contains fetches read) plan → EachRead P plan
each_read P fetches Empty all reads = tt
each_read P fetches (Fetch read) all reads = of_all P fetches read all reads
each_read P fetches (Filter conds below) all reads = each_read P fetches below all reads
each_read P fetches (Project columns below) all reads = each_read P fetches below all reads
each_read P fetches (Union one other) all reads = (each_read P fetches one all reads.0, each_read P fetches other all reads.1)
each_read P fetches (KeyJoin one other) all reads = (each_read P fetches one all reads.0, each_read P fetches other all reads.1)
each_read P fetches (Lookup col width left right) all reads = (each_read P fetches left all reads.0, each_read P fetches right all reads.1)

-- the table of a plan over what the fetches bring of a whole database
pub table_of : (catalogue : Catalogue) (statement : Statement) (fetches : List fetch.Fetch) (plan : Shape) (contents : Leaf → List (List Value)) (table : Table) → BroughtIsRead → ReadsGive → IsFormed catalogue → IsStatementOf (schemas_of catalogue) statement → AreFetchesOf catalogue statement fetches →
    FindsAll catalogue statement fetches plan → HasRows plan contents table → (whole : Relations) → FitsSchema (schemas_of catalogue) whole → AreBrought catalogue whole fetches contents → IsTableOf statement whole table
table_of catalogue statement fetches plan contents table brought gives formed of are finds made whole fit given = record {
  order = made.order;
  seen = λ key. made.seen key ∙ finds whole contents key fit (gives catalogue whole (is_fetched fetches) contents (needs statement).relations (brought catalogue statement fetches whole contents formed of are given));
}

-- what holds of an outcome over each whole database of which it has a table holds over each of which the fetches bring it
pub over_brought : (result : Result Outcome Memory) (Fits Has Brought : Relations → Type 0) (Holds : Outcome → Relations → Type 0) → ((whole : Relations) → Fits whole → Brought whole → Has whole) →
    IfOk result (λ outcome. (whole : Relations) → Fits whole → Has whole → Holds outcome whole) → IfOk result (λ outcome. (whole : Relations) → Fits whole → Brought whole → Holds outcome whole)
over_brought (Err error) Fits Has Brought Holds more h = tt
over_brought (Ok outcome) Fits Has Brought Holds more h = λ whole fit brought. h whole fit (more whole fit brought)
