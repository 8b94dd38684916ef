-- The catalogue in force was copied, and those that were looked at.
use Rattle.std.proofs.Common.{◌≡◌, ◌∷◌, map, take}
use Rattle.catalog.specs.Relation.{catalogue_of}
use Rattle.history.proofs.desk_cell.catalogs_of.Given as goal

abbrev pub invariant-loop-catalog : goal.invariant-loop-catalog
invariant-loop-catalog g l = map catalogue_of l.catalogs.items ≡ catalogue_of l.desk.catalog ∷ map catalogue_of (take l.catalog-index l.desk.later.items)
