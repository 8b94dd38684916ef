-- Why `print_statement::put_select` meets its contract.
use Rattle.std.proofs.Common.{append_assoc}
use Rattle.reader.proofs.print_statement.put_select.Goals as goal

pub returns : goal.returns
returns c =
    let listed = rw (c.of_select-columns.ensures, c.as_slice.ensures, c.in_ok-push_str.ensures.bytes) at c.in_ok-put_list.ensures in
    let joined = rw (c.of_select-columns.ensures, c.as_slice-2.ensures) at c.in_ok-put_joins.ensures in
    simp append_assoc (simp append_assoc at (rw (c.of_select-columns.ensures, c.as_slice-3.ensures, joined, c.in_ok-write.ensures.bytes, listed) at c.put_where.ensures))
