-- Why `print_statement::put_insert` meets its contract.
use Rattle.std.proofs.Common.{append_assoc}
use lib.Utf8.{encode}
use Rattle.reader.proofs.print_statement.put_insert.Goals as goal

pub returns : goal.returns
unfolding encode
returns c = simp append_assoc (simp append_assoc at (rw (c.in_ok-put_constants.ensures, c.values.ensures, c.in_ok-write.ensures.bytes) at c.in_ok-push.ensures.bytes))
