-- Why `print_statement::put_list` meets its contract.
use Rattle.std.proofs.Common.{codes, string_bytes}
use Rattle.reader.specs.Columns.{column_at}
use Rattle.reader.specs.PrintStatement.{column_bytes}
use Rattle.reader.proofs.SeparatedItems.{on_ok_separated}
use Rattle.reader.proofs.print_statement.put_list.Goals as goal

pub returns : goal.returns
returns c = on_ok_separated c.put_separated.result (string_bytes c.args.out.now) (string_bytes c.put_separated.new.out) column_bytes (column_at c.args.columns.now) (codes ", ") c.args.places.now c.put_separated.ensures
