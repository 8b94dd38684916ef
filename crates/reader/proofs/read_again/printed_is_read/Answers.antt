-- Why `read_again::printed_is_read` meets its contract.
use Rattle.reader.proofs.ReadAgain.{statement_again}
use Rattle.reader.proofs.read_again.printed_is_read.Goals as goal

pub returns : goal.returns
returns c = statement_again
