-- What each round of `fill_all` keeps.
use Rattle.std.proofs.Common.{◌≡◌, length}
use Rattle.std.specs.Vec.Iter.{into_iter_items, into_iter_len}
use Rattle.catalog.specs.Relation.{catalogue_of}
use Rattle.world.proofs.NewStores.{GoFull}
use Rattle.world.proofs.start.fill_all.Given as goal

abbrev pub invariant-loop-given : goal.invariant-loop-given
invariant-loop-given g l =
    (into_iter_len l.given-iterator ≡ length (into_iter_items l.given-iterator)) ×
    GoFull g.S.SiteStore.is_clean g.S.SiteStore.is_sound g.S.SiteStore.kept g.S.SiteStore.refused (catalogue_of l.catalog) l.whole l.fn.stores.items (into_iter_items l.given-iterator) l.filled.items
