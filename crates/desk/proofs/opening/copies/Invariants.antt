use Rattle.std.proofs.Common.{◌≡◌, map, take}
use Rattle.catalog.specs.Relation.{catalogue_of}
use Rattle.desk.proofs.opening.copies.Given as goal

abbrev pub invariant-loop-catalog : goal.invariant-loop-catalog
invariant-loop-catalog l = map catalogue_of l.copies.items ≡ map catalogue_of (take l.catalog-index l.catalogs)
