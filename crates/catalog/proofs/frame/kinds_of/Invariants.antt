use Rattle.std.proofs.Common.{◌≡◌, ◌++◌, drop, map}
use Rattle.catalog.proofs.frame.kinds_of.Given as goal

-- the types so far and those of the columns that are left are those of all
abbrev pub invariant-loop-column : goal.invariant-loop-column
invariant-loop-column l = l.kinds.items ++ map (λ column. column.kind) (drop l.column-index l.columns) ≡ map (λ column. column.kind) l.columns
