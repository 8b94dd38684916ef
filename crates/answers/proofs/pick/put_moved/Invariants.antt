-- What each round of `pick::put_moved` keeps.
use Rattle.std.proofs.Common.{◌≡◌, ◌++◌, drop, filter, map, not}
use Rattle.catalog.specs.Counts.{has}
use Rattle.answers.specs.Laid.{moved, numbers}
use Rattle.answers.proofs.pick.put_moved.Given as goal

abbrev pub invariant-loop-column : goal.invariant-loop-column
invariant-loop-column l =
    l.found.items ++ map (moved l.count) (filter (λ column. not (has (numbers l.columns) column.number)) (drop l.column-index l.others))
    ≡ l.fn.found.items ++ map (moved l.count) (filter (λ column. not (has (numbers l.columns) column.number)) l.others)
