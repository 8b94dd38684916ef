-- What each round of `unsent_of` keeps.
use Rattle.std.proofs.Common.{◌≡◌, ◌++◌, map}
use Rattle.std.specs.Vec.Iter.{into_iter_items}
use Rattle.catalog.specs.Relation.{catalogue_of}
use Rattle.desk.specs.Planned.{unsent_from}
use Rattle.desk.proofs.fetches.unsent_of.Given as goal

-- the writes so far, and those of the rest, are all
abbrev pub invariant-loop-write : goal.invariant-loop-write
invariant-loop-write l = l.unsent.items ++ map (unsent_from (catalogue_of l.catalog)) (into_iter_items l.write-iterator) ≡ map (unsent_from (catalogue_of l.catalog)) l.fn.writes.items
