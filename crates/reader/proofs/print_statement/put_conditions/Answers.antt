-- Why `print_statement::put_conditions` meets its contract.
use Rattle.std.proofs.Common.{codes, string_bytes}
use Rattle.reader.specs.Columns.{column_at}
use Rattle.reader.specs.PrintStatement.{condition_bytes}
use Rattle.reader.specs.Written.{condition_as}
use Rattle.reader.proofs.SeparatedItems.{on_ok_separated}
use Rattle.reader.proofs.print_statement.put_conditions.Goals as goal

pub returns : goal.returns
returns c = on_ok_separated c.put_separated.result (string_bytes c.args.out.now) (string_bytes c.put_separated.new.out) condition_bytes (condition_as (column_at c.args.columns.now)) (codes " AND ") c.args.conds.now c.put_separated.ensures
