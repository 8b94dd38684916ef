use Rattle.lines.proofs.grammar.solo_command.Goals as goal

pub returns : goal.returns
returns c =
    let script = c.in_ok-solo-2.ensures _ (c.in_ok-solo.ensures _ c.new_command-solo.ensures) in
    let shown = c.in_ok-solo-5.ensures _ (c.with_notes.ensures _ (c.in_ok-solo-4.ensures _ (c.in_ok-solo-3.ensures _ script))) in
    c.with_next.ensures _ (c.in_ok-solo-6.ensures _ shown)
