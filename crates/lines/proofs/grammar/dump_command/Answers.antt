use Rattle.lines.proofs.grammar.dump_command.Goals as goal

pub returns : goal.returns
returns c =
    let named = c.in_ok-dump-2.ensures _ (c.in_ok-dump.ensures _ c.new_command-dump.ensures) in
    c.with_modes.ensures _ (c.in_ok-dump-3.ensures _ named)
