use Rattle.lines.proofs.grammar.check_command.Goals as goal

pub returns : goal.returns
returns c = c.with_flag-2.ensures _ (c.in_ok-check-2.ensures _ (c.in_ok-check.ensures _ c.new_command.ensures))
