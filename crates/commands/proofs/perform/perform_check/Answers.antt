use Rattle.std.proofs.Common.{IfOk, IfSome, subst, sym}
use Rattle.commands.specs.Perform.{outcome_of_check}
use Rattle.databases.specs.Ending.{ComesTo}
use Rattle.lines.specs.Check.{ChecksFile}
use Rattle.databases.proofs.EndingLemmas.{came_to_once}
use Rattle.commands.proofs.perform.perform_check.Goals as goal

pub returns-in-Ok-clause-opened : goal.returns-in-Ok-clause-opened
returns-in-Ok-clause-opened g c =
    let old = g.W.Write.contents c.args.output.now in
    let new = g.W.Write.contents c.check.new.output in
    subst (λ file. IfOk file (λ reader. IfSome (g.R.Read.remaining reader) (λ bytes. ComesTo outcome_of_check (ChecksFile c.args.tree c.args.file bytes old new) c.of_check.result))) (sym c.in-Ok.is)
    (came_to_once (g.R.Read.remaining c.in-Ok.input) outcome_of_check (λ bytes. ChecksFile c.args.tree c.args.file bytes old new) c.check.result c.of_check.result c.of_check.ensures c.check.ensures)
