use Rattle.std.proofs.Common.{◌≡◌, ap, subst, rules, IfOk, Ok, ◌∙◌}
use Rattle.std.proofs.lemmas.Result.{IfOk-weaker}
use Rattle.clap.specs.Words.{App, app_of, with_subcommand}
use Rattle.lines.specs.Grammar.{IsCommand}
use Rattle.lines.proofs.grammar.with_command.Goals as goal

pub returns : goal.returns
returns c = λ app made.
    let is : c.args.command ≡ Ok c.in_ok-command.field-0 = search rules in
    let one : IsCommand app c.in_ok-command.field-0 = subst (λ r. IfOk r (IsCommand app)) is made in
    IfOk-weaker c.subcommand.result _ _ (λ r h. h.shape one.own ∙ ap (λ (a : App). with_subcommand (app_of c.args.program) a.top) one.is) c.subcommand.ensures
