-- Why `print_statement::put_assignments` meets its contract.
use Rattle.std.proofs.Common.{codes, string_bytes}
use Rattle.reader.specs.PrintStatement.{assignment_bytes}
use Rattle.reader.specs.Written.{assignment_as}
use Rattle.reader.proofs.SeparatedItems.{on_ok_separated}
use Rattle.reader.proofs.print_statement.put_assignments.Goals as goal

pub returns : goal.returns
returns c = on_ok_separated c.put_separated.result (string_bytes c.args.out.now) (string_bytes c.put_separated.new.out) assignment_bytes (assignment_as c.args.names.now) (codes ", ") c.args.sets.now c.put_separated.ensures
