use Rattle.std.proofs.Common.{arith, ap, option_map, sym, ◌∙◌}
use Rattle.std.proofs.lemmas.Grind.{common_steps}
use Rattle.lines.proofs.ScriptLemmas.{argument_of-other, argument_of-rest}
use Rattle.lines.proofs.script.argument.Goals as goal

pub returns-in_err-word : goal.returns-in_err-word
returns-in_err-word c =
    ap (option_map (λ word. word.now)) c.from_residual.ensures
    ∙ sym (argument_of-other c.strip_prefix.result c.args.command.now c.args.line.now c.strip_prefix.ensures.cases c.in_err-word.was)

pub returns-then-is_word : goal.returns-then-is_word
returns-then-is_word c =
    let rest = argument_of-rest c.strip_prefix.result c.args.command.now c.args.line.now c.in_ok-word.word c.strip_prefix.ensures.cases c.in_ok-word.was in
    grind (arith, common_steps, rest)
