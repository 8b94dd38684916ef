use Rattle.lines.proofs.grammar.plan_command.Goals as goal

pub returns : goal.returns
returns c = c.with_flag.ensures _ (c.in_ok-plan-2.ensures _ (c.in_ok-plan.ensures _ c.new_command.ensures))
