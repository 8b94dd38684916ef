-- Why `sites_up` meets its contract.
use Rattle.std.proofs.Common.{sym, ◌∙◌, subst, ℕ, List}
use Rattle.std.specs.Vec.Iter.{into_iter_items}
use Rattle.catalog.specs.Relation.{catalogue_of}
use Rattle.world.specs.Recovery.{AreUp}
use Rattle.world.proofs.SitesUp.{all_up, nothing_left}
use Rattle.world.proofs.recovery.sites_up.Goals as goal

pub returns-clause-up : goal.returns-clause-up
returns-clause-up g c =
    subst (λ (names : List (List ℕ)). AreUp g.S.SiteStore.is_clean g.S.SiteStore.is_sound g.S.SiteStore.kept g.S.SiteStore.refused (catalogue_of c.args.catalog.now) names c.args.stores.items c.loop-store.sites.items) c.sites-names.ensures
    (all_up g.S.SiteStore.is_clean g.S.SiteStore.is_sound g.S.SiteStore.kept g.S.SiteStore.refused (catalogue_of c.args.catalog.now) c.sites-names.result.now c.args.stores.items (into_iter_items c.loop-store.store-iterator) c.loop-store.sites.items
    c.loop-store.invariant.1 (nothing_left _ (sym c.loop-store.invariant.0 ∙ c.in-None.ensures.steps.0)))
