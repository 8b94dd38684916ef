use Rattle.lines.proofs.grammar.with_modes.Goals as goal

pub returns : goal.returns
returns c = λ app made. c.with_flag-3.ensures _ (c.in_ok-command-2.ensures _ (c.in_ok-command.ensures _ made))
