-- Why `print_statement::put_constants` meets its contract.
use Rattle.std.proofs.Common.{codes, string_bytes}
use Rattle.reader.specs.PrintStatement.{constant_bytes}
use Rattle.reader.specs.Written.{constant_as}
use Rattle.reader.proofs.SeparatedItems.{on_ok_separated}
use Rattle.reader.proofs.print_statement.put_constants.Goals as goal

pub returns : goal.returns
returns c = on_ok_separated c.put_separated.result (string_bytes c.args.out.now) (string_bytes c.put_separated.new.out) constant_bytes constant_as (codes ", ") c.args.values.now c.put_separated.ensures
