-- What each round of `pick::columns_past` keeps.
use Rattle.std.proofs.Common.{◌≡◌, ◌++◌, ◌+◌, ◌<◌, drop}
use Rattle.std.specs.List.{AllByRecursion}
use Rattle.answers.specs.Laid.{laid_past}
use Rattle.answers.proofs.pick.columns_past.Given as goal

abbrev pub invariant-loop-column : goal.invariant-loop-column
invariant-loop-column l =
    (l.found.items ++ laid_past l.width (drop l.column-index l.columns) ≡ laid_past l.width l.columns) × AllByRecursion (λ column. l.width + column.number < 18446744073709551616) (drop l.column-index l.columns)
