-- Why `read::one_command` meets its contract.
use Rattle.reader.proofs.Unique.{unique}
use Rattle.reader.proofs.read.one_command.Goals as goal

pub returns : goal.returns
returns c = unique
