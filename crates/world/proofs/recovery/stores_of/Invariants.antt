-- What each round of `stores_of` keeps.
use Rattle.std.proofs.Common.{◌≡◌, length, map, ◌++◌}
use Rattle.std.specs.Vec.Iter.{into_iter_items, into_iter_len}
use Rattle.world.proofs.recovery.stores_of.Given as goal

abbrev pub invariant-loop-site : goal.invariant-loop-site
invariant-loop-site g l =
    (into_iter_len l.site-iterator ≡ length (into_iter_items l.site-iterator)) ×
    (l.stores.items ++ map (λ site. site.store) (into_iter_items l.site-iterator) ≡ map (λ site. site.store) l.fn.sites.items)
