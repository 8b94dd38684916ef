-- What each round of `print_answer::put_rows` keeps.
use Rattle.std.proofs.Common.{◌≡◌, ◌++◌, ◌∷◌, take, string_bytes}
use Rattle.std.specs.List.{flat_map}
use Rattle.reader.specs.PrintAnswer.{row_text}
use Rattle.reader.proofs.print_answer.put_rows.Given as goal

abbrev pub invariant-loop-row : goal.invariant-loop-row
invariant-loop-row l = string_bytes l.out ≡ string_bytes l.initial.out ++ flat_map (λ row. 10 ∷ row_text row) (take l.row-index l.rows)
