-- What is located is a plan of its statement.
use Rattle.std.proofs.Common.{Result, Ok, Err, IfOk}
use Rattle.terms.specs.declared.memory.Memory.{Memory}
use Rattle.meaning.specs.declared.statement.Statement.{Statement}
use Rattle.catalog.specs.Catalogue.{Catalogue, IsValidCatalogue}
use Rattle.catalog.specs.Cover.{OneServes, SomeServes}
use Rattle.catalog.specs.Formed.{IsFormed}
use Rattle.catalog.specs.Laws.{LeafNamesAreUnique}
use Rattle.plan.specs.declared.plan.Plan.{Plan}
use Rattle.plan.specs.Located.{IsLocated}
use Rattle.plan.specs.PlanOf.{IsPlanOf}
use Rattle.plan.specs.Reduced.{is_fetched}
use Rattle.plan.specs.Shape.{Shape, shape}
use Rattle.plan.proofs.Among.{are_among}
use Rattle.plan.proofs.PlanFound.{plan_finds}
use Rattle.plan.proofs.UniformPlan.{plan_reads, plan_uniform}

pub plan_of : (catalogue : Catalogue) (statement : Statement) (plan : Shape) → SomeServes → OneServes → LeafNamesAreUnique → IsFormed catalogue → IsValidCatalogue catalogue → IsLocated catalogue statement plan → IsPlanOf catalogue statement plan
plan_of catalogue statement plan cover one unique formed valid is = λ fetches of are. record {
  finds = plan_finds catalogue statement fetches plan cover one formed valid of are is;
  fetched = plan_reads catalogue statement fetches plan (are_among catalogue statement fetches unique formed of are) is;
  uniform = plan_uniform catalogue statement (is_fetched fetches) plan formed valid of is;
}

pub planned : (result : Result Plan Memory) (catalogue : Catalogue) (statement : Statement) → SomeServes → OneServes → LeafNamesAreUnique → IsFormed catalogue → IsValidCatalogue catalogue → IfOk result (λ plan. IsLocated catalogue statement (shape plan)) →
    IfOk result (λ plan. IsPlanOf catalogue statement (shape plan))
planned (Ok plan) catalogue statement cover one unique formed valid is = plan_of catalogue statement (shape plan) cover one unique formed valid is
planned (Err error) catalogue statement cover one unique formed valid is = tt
