use Rattle.lines.proofs.grammar.with_folder.Goals as goal

pub returns : goal.returns
returns c = λ app made. c.with_option.ensures _ made
