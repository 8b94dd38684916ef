-- What each round of `relations::column_names` keeps.
use Rattle.std.proofs.Common.{◌≡◌, map, take}
use Rattle.reader.proofs.relations.column_names.Given as goal

abbrev pub invariant-loop-column : goal.invariant-loop-column
invariant-loop-column l = l.names.items ≡ map (λ c. c.name) (take l.column-index l.columns)
