-- Why `parser::one_reading_of_conditions` meets its contract.
use Rattle.reader.proofs.Commands.{one_list_of_conditions}
use Rattle.reader.proofs.parser.one_reading_of_conditions.Goals as goal

pub returns : goal.returns
returns c = one_list_of_conditions
