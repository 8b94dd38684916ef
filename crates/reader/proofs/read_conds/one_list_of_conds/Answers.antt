-- Why `read_conds::one_list_of_conds` meets its contract.
use Rattle.reader.proofs.CondsOfText.{unique}
use Rattle.reader.proofs.read_conds.one_list_of_conds.Goals as goal

pub returns : goal.returns
returns c = unique
