-- What each round of `fetches::column_kinds` keeps.
use Rattle.std.proofs.Common.{◌≡◌, map, take}
use Rattle.plan.proofs.fetches.column_kinds.Given as goal

-- the types are those of the columns so far
abbrev pub invariant-loop-column : goal.invariant-loop-column
invariant-loop-column l = l.kinds.items ≡ map (λ column. column.kind) (take l.column-index l.columns)
