-- Why `read_conds::conds_of_a_text_fit` meets its contract.
use Rattle.reader.proofs.CondsOfText.{conds_of_text_fit}
use Rattle.reader.proofs.read_conds.conds_of_a_text_fit.Goals as goal

pub returns : goal.returns
returns c = conds_of_text_fit
