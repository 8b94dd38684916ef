use Rattle.lines.proofs.grammar.with_script.Goals as goal

pub returns : goal.returns
returns c = λ app made. c.with_required.ensures _ (c.in_ok-command.ensures _ made)
