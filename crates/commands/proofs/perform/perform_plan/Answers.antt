use Rattle.std.proofs.Common.{IfOk, IfSome, subst, sym}
use Rattle.commands.specs.Perform.{outcome_of_plan}
use Rattle.databases.specs.Ending.{ComesTo}
use Rattle.lines.specs.Plan.{PlansFile}
use Rattle.databases.proofs.EndingLemmas.{came_to_once}
use Rattle.commands.proofs.perform.perform_plan.Goals as goal

pub returns-in-Ok-clause-opened : goal.returns-in-Ok-clause-opened
returns-in-Ok-clause-opened g c =
    let old = g.W.Write.contents c.args.output.now in
    let new = g.W.Write.contents c.plan.new.output in
    subst (λ file. IfOk file (λ reader. IfSome (g.R.Read.remaining reader) (λ bytes. ComesTo outcome_of_plan (PlansFile c.args.tree c.args.file c.args.statement.now bytes old new) c.of_plan.result))) (sym c.in-Ok.is)
    (came_to_once (g.R.Read.remaining c.in-Ok.input) outcome_of_plan (λ bytes. PlansFile c.args.tree c.args.file c.args.statement.now bytes old new) c.plan.result c.of_plan.result c.of_plan.ensures c.plan.ensures)
