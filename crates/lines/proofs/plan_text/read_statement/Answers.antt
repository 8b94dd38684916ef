-- Why `plan_text::read_statement` meets its contract.
use Rattle.std.proofs.Common.{subst, sym, refl}
use Rattle.lines.specs.declared.plan_text.PlanFault.{PlanFault}
use Rattle.lines.specs.Plan.{IsReadFault}
use Rattle.lines.proofs.PlanLemmas.{other_command, refused_by}
use Rattle.lines.proofs.plan_text.read_statement.Goals as goal

pub returns-in-None-clause-faults : goal.returns-in-None-clause-faults
returns-in-None-clause-faults c =
    other_command c.args.schema.now.relations c.args.text.now c.in-Ok.command c.new.result c.one_command.ensures c.in-Ok.ensures.found c.in-None.ensures.none c.new.ensures.rule

pub returns-in-Err-clause-faults : goal.returns-in-Err-clause-faults
returns-in-Err-clause-faults c =
    let P : PlanFault → Type 0 = λ fault. IsReadFault c.args.schema.now.relations c.args.text.now fault in
    subst P (sym c.refusal.ensures) (refused_by c.args.schema.now.relations c.args.text.now c.in-Err.fault c.in-Err.fault.rule refl c.in-Err.ensures.none)
