use Rattle.lines.proofs.grammar.play_command.Goals as goal

pub returns : goal.returns
returns c =
    let scripted = c.in_ok-play.ensures _ (c.with_notes.ensures _ c.new_command-play.ensures) in
    c.with_next.ensures _ (c.in_ok-play-2.ensures _ scripted)
