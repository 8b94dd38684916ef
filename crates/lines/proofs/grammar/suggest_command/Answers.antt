use Rattle.lines.proofs.grammar.suggest_command.Goals as goal

pub returns : goal.returns
returns c =
    let filed = c.in_ok-suggest.ensures _ c.new_command-suggest.ensures in
    let split = c.in_ok-suggest-3.ensures _ (c.in_ok-suggest-2.ensures _ filed) in
    c.with_option-2.ensures _ (c.in_ok-suggest-4.ensures _ split)
