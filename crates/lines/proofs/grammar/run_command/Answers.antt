use Rattle.lines.proofs.grammar.run_command.Goals as goal

pub returns : goal.returns
returns c =
    let scripted = c.in_ok-run.ensures _ (c.with_notes.ensures _ c.new_command-run.ensures) in
    c.with_next.ensures _ (c.in_ok-run-3.ensures _ (c.in_ok-run-2.ensures _ scripted))
