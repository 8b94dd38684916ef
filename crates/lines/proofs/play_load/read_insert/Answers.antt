use Rattle.std.proofs.Common.{◌∙◌}
use Rattle.reader.specs.declared.command.Command.TheVariants.{Run}
use Rattle.meaning.specs.declared.statement.Statement.TheVariants as statement
use Rattle.lines.proofs.PlayLoadLemmas.{no_insert}
use Rattle.lines.proofs.play_load.read_insert.Goals as goal

pub returns-in-Ok-clause-none : goal.returns-in-Ok-clause-none
returns-in-Ok-clause-none c =
    no_insert c.args.schema.now.relations c.args.text.now c.in-Ok.command c.insert_of.result c.one_command.ensures c.in-Ok.ensures.found c.insert_of.ensures.none

pub returns-in_default : goal.returns-in_default
returns-in_default c = record {
  some = λ insert is. absurd cc;
  none = λ _ insert. c.in-Err.ensures.none (λ memory. c.in_default.not-Memory (c.rule.ensures ∙ memory)) (Run (statement.Insert insert));
}
