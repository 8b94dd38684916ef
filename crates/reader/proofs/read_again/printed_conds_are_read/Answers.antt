-- Why `read_again::printed_conds_are_read` meets its contract.
use Rattle.reader.proofs.ReadAgain.{conds_again}
use Rattle.reader.proofs.read_again.printed_conds_are_read.Goals as goal

pub returns : goal.returns
returns c = conds_again
