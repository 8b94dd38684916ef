-- Why `lexer::one_list_of_tokens` meets its contract.
use Rattle.reader.proofs.Loop.{one_list}
use Rattle.reader.proofs.lexer.one_list_of_tokens.Goals as goal

pub returns : goal.returns
returns c = one_list
