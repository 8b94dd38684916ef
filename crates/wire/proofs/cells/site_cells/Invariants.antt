-- What each round of `site_cells` keeps.
use Rattle.std.proofs.Common.{◌≡◌, length}
use Rattle.std.specs.Vec.Iter.{into_iter_items, into_iter_len}
use Rattle.catalog.specs.Relation.{catalogue_of}
use Rattle.wire.proofs.SiteCells.{GoesOn}
use Rattle.wire.proofs.cells.site_cells.Given as goal

abbrev pub invariant-loop-store : goal.invariant-loop-store
invariant-loop-store g l =
    (into_iter_len l.store-iterator ≡ length (into_iter_items l.store-iterator)) ×
    GoesOn g.S.SiteStore.is_clean g.S.SiteStore.kept (catalogue_of l.catalog) l.names (into_iter_items l.store-iterator) l.cells.items
