-- Why `parser::parse` meets its contract.
use Rattle.reader.proofs.Commands.{is_found, is_none}
use Rattle.reader.proofs.parser.parse.Goals as goal

pub returns-clause-found : goal.returns-clause-found
returns-clause-found c = is_found _ c.command.result (rw c.new.ensures at c.command.ensures)

pub returns-clause-none : goal.returns-clause-none
returns-clause-none c = is_none _ c.command.result (rw c.new.ensures at c.command.ensures)
