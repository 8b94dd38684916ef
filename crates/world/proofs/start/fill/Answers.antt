-- Why `fill` meets its contract.
use Rattle.std.specs.FinMap as fin
use Rattle.catalog.specs.Relation.{catalogue_of}
use Rattle.protocol.proofs.Basics.{clash}
use Rattle.world.proofs.NewStores.{filled_by, filled_still, may_fill, store_still}
use Rattle.world.proofs.start.fill.Goals as goal

pub returns-then-is_empty-clause-fills : goal.returns-then-is_empty-clause-fills
returns-then-is_empty-clause-fills g c = record {
  leaves_store = store_still g.S.SiteStore.is_clean g.S.SiteStore.is_sound g.S.SiteStore.refused c.args.store.now;
  filled = λ clean sound had nothing.
      filled_still (catalogue_of c.args.catalog.now) c.args.whole.now c.args.place c.in_ok-parts.parts c.in_ok-parts.ensures.kept (g.S.SiteStore.kept c.args.store.now) (c.is_empty.ensures.empty.0 c.if-is_empty.true) (λ leaf. (c.nothing_changes.ensures leaf fin.empty).0) nothing;
}

pub returns-in-Ok-clause-fills : goal.returns-in-Ok-clause-fills
returns-in-Ok-clause-fills g c =
    let catalogue = catalogue_of c.args.catalog.now in
    let parts = c.in_ok-parts.parts in
    let old = g.S.SiteStore.kept c.args.store.now in
    record {
      leaves_store = c.make_all.ensures.leaves;
      filled = λ clean sound had nothing.
          let made = c.in-Ok.ensures.ok clean sound (λ ticket. may_fill catalogue c.args.whole.now c.args.place parts c.in_ok-parts.ensures.kept ticket old (λ none. clash (c.is_empty.ensures.empty.1 none) c.if-is_empty.false) c.in_ok-parts.ensures.within had nothing) in
          filled_by catalogue c.args.whole.now c.args.place parts c.in_ok-parts.ensures.kept made.0 old (g.S.SiteStore.kept c.make_all.new.store) nothing made.1;
    }
