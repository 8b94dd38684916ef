-- A text that is refused, but not for want of memory, has no command.
use Rattle.std.proofs.Common.{sym, subst}
use Rattle.reader.specs.Command.{IsTextOf}
use Rattle.history.proofs.asked.command_of.Goals as goal

pub returns-else-is_memory : goal.returns-else-is_memory
returns-else-is_memory c = λ command is.
    c.in-Err.ensures.none (λ e. let yes = c.is_memory.ensures.1 e in let no = c.if-is_memory.false in cc) command
    (subst (λ text. IsTextOf c.args.schema.now.relations text command) (sym c.as_str.ensures) is)
