-- Why `start_sites` meets its contract.
use Rattle.std.proofs.Common.{sym, subst}
use Rattle.std.specs.List.{AllByRecursion}
use Rattle.catalog.specs.Relation.{catalogue_of}
use Rattle.store.specs.PlainSite.{IsSound, kept_of}
use Rattle.world.specs.Seated.{seat_from}
use Rattle.world.proofs.Opened.{all_more, next_started}
use Rattle.world.proofs.start.start_sites.Goals as goal

pub loop-place-preserved : goal.loop-place-preserved
loop-place-preserved c = record {
  started = next_started (seat_from kept_of) (catalogue_of c.args.catalog.now) c.args.whole.now c.sites-names.result.now c.loop-place.sites.items c.push.new.self.items c.loop-place.place c.index-names-place.result c.index-names-place.result c.in_ok-site.site
      c.loop-place-test.true c.loop-place.invariant.started c.index-names-place.is c.in_ok-site.ensures.started c.in_ok-push.ensures.items;
  sound = subst (AllByRecursion (λ site. IsSound site.store)) (sym c.in_ok-push.ensures.items) (all_more (λ site. IsSound site.store) c.loop-place.sites.items c.in_ok-site.site c.loop-place.invariant.sound c.in_ok-site.ensures.sound);
}
