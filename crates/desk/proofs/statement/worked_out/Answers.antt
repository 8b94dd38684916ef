-- Why `worked_out` meets its contract.
use Rattle.std.proofs.Common.{◌∙◌, subst}
use Rattle.std.specs.Option.{option_copied}
use Rattle.desk.specs.Evaluated.{ComesTo}
use Rattle.desk.proofs.statement.worked_out.Goals as goal

pub returns : goal.returns
returns c =
    subst (λ rows. ComesTo c.args.catalog.now (option_copied c.args.next) c.args.statement.now c.args.plan.now rows c.evaluate.result) (c.as_slice.ensures.value ∙ c.in_ok-fetched.ensures) c.evaluate.ensures
