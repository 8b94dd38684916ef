-- A text is one of one command at most.
use Rattle.std.proofs.Common.{subst}
use Rattle.reader.specs.declared.command.Command.TheVariants as commands
use Rattle.history.specs.Standing.{IsCommandIn}
use Rattle.history.proofs.Heard.{text_of}
use Rattle.history.proofs.asked.asks_to_commit.Goals as goal

pub returns-in-Some : goal.returns-in-Some
returns-in-Some c =
    let schema = c.args.schema.now.relations in
    let text = c.args.text.now in
    text_of schema text c.in-Some.command commands.Commit c.is_commit.result (subst (IsCommandIn schema text) c.in-Some.is c.in_ok-command.ensures) c.is_commit.ensures

pub returns-in-None : goal.returns-in-None
returns-in-None c =
    let none = subst (IsCommandIn c.args.schema.now.relations c.args.text.now) c.in-None.is c.in_ok-command.ensures in
    (λ e. cc, λ is. absurd (none commands.Commit is))
