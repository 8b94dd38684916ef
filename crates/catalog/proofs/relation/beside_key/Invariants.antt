use Rattle.std.proofs.Common.{◌≡◌, ◌++◌, drop, map}
use Rattle.catalog.specs.Path.{columns_beside_key, places_from}
use Rattle.catalog.proofs.relation.beside_key.Given as goal

-- the places so far and those of the columns that are left are all
abbrev pub invariant-loop-place : goal.invariant-loop-place
invariant-loop-place l = l.places.items ++ places_from l.place (drop l.place (map (λ column. column.kind) l.columns)) ≡ columns_beside_key (map (λ column. column.kind) l.columns)
