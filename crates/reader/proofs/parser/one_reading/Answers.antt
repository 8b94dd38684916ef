-- Why `parser::one_reading` meets its contract.
use Rattle.reader.proofs.Commands.{one_command}
use Rattle.reader.proofs.parser.one_reading.Goals as goal

pub returns : goal.returns
returns c = one_command
