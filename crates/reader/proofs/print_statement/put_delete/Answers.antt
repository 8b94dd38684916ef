-- Why `print_statement::put_delete` meets its contract.
use Rattle.std.proofs.Common.{append_assoc}
use Rattle.reader.proofs.print_statement.put_delete.Goals as goal

pub returns : goal.returns
returns c = simp append_assoc at (rw (c.in_ok-write.ensures.bytes, c.as_slice.ensures) at c.put_where.ensures)
