-- Why `parser::parse_conditions` meets its contract.
use Rattle.reader.proofs.Commands.{are_found, are_none}
use Rattle.reader.proofs.parser.parse_conditions.Goals as goal

pub returns-clause-found : goal.returns-clause-found
returns-clause-found c = are_found _ c.conditions_alone.result (rw c.new.ensures at c.conditions_alone.ensures)

pub returns-clause-none : goal.returns-clause-none
returns-clause-none c = are_none _ c.conditions_alone.result (rw c.new.ensures at c.conditions_alone.ensures)
