-- What each round of `sites_up` keeps.
use Rattle.std.proofs.Common.{◌≡◌, length}
use Rattle.std.specs.Vec.Iter.{into_iter_items, into_iter_len}
use Rattle.catalog.specs.Relation.{catalogue_of}
use Rattle.world.proofs.SitesUp.{GoesUp}
use Rattle.world.proofs.recovery.sites_up.Given as goal

abbrev pub invariant-loop-store : goal.invariant-loop-store
invariant-loop-store g l =
    (into_iter_len l.store-iterator ≡ length (into_iter_items l.store-iterator)) ×
    GoesUp g.S.SiteStore.is_clean g.S.SiteStore.is_sound g.S.SiteStore.kept g.S.SiteStore.refused (catalogue_of l.catalog) l.names l.fn.stores.items (into_iter_items l.store-iterator) l.sites.items
