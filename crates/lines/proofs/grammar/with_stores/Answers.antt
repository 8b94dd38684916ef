use Rattle.lines.proofs.grammar.with_stores.Goals as goal

pub returns : goal.returns
returns c = λ app made. c.with_folder.ensures _ (c.in_ok-command.ensures _ made)
