-- What each round of `names_of` keeps.
use Rattle.std.proofs.Common.{◌≡◌, ◌++◌, drop, map}
use Rattle.world.proofs.rebuild.names_of.Given as goal

-- the names so far, and those of the rest
abbrev pub invariant-loop-column : goal.invariant-loop-column
invariant-loop-column l = l.names.items ++ map (λ column. column.name) (drop l.column-index l.columns) ≡ map (λ column. column.name) l.columns
