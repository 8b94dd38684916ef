use Rattle.lines.proofs.grammar.import_command.Goals as goal

pub returns : goal.returns
returns c =
    let named = c.in_ok-import-2.ensures _ (c.in_ok-import.ensures _ (c.with_notes-import.ensures _ c.new_command.ensures)) in
    c.with_option-2.ensures _ (c.in_ok-import-4.ensures _ (c.in_ok-import-3.ensures _ named))
