-- Why `print_answer::put_row` meets its contract.
use Rattle.std.proofs.Common.{[], ◌∷◌, string_bytes}
use Rattle.reader.specs.PrintAnswer.{value_text}
use Rattle.reader.proofs.SeparatedItems.{on_ok_separated}
use Rattle.reader.proofs.print_answer.put_row.Goals as goal

pub returns : goal.returns
returns c = on_ok_separated c.put_separated.result (string_bytes c.args.out.now) (string_bytes c.put_separated.new.out) (λ field. field) value_text (9 ∷ []) c.args.values.now c.put_separated.ensures
