-- What each round of `moves::put_moves` keeps.
use Rattle.std.proofs.Common.{◌≡◌, ◌++◌, drop}
use Rattle.std.specs.List.{filter_map}
use Rattle.std.specs.Option.{option_copied}
use Rattle.answers.specs.Moved.{row_move}
use Rattle.answers.proofs.moves.put_moves.Given as goal

abbrev pub invariant-loop-row : goal.invariant-loop-row
invariant-loop-row l =
    l.moves.items ++ filter_map (row_move l.site l.name (option_copied l.before) (option_copied l.after)) (drop l.row-index l.rows)
    ≡ l.fn.moves.items ++ filter_map (row_move l.site l.name (option_copied l.before) (option_copied l.after)) l.rows
