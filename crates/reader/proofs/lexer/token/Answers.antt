-- Why `lexer::token` meets its contract.
use Rattle.std.proofs.Common.{sym}
use Rattle.reader.proofs.Signs.{sign_fits}
use Rattle.reader.proofs.lexer.token.Goals as goal

pub split_at-requires : goal.split_at-requires
split_at-requires c = rw (c.text.ensures) (sign_fits _ _ (sym c.in-Some.ensures))
