-- Why `fill_all` meets its contract.
use Rattle.std.proofs.Common.{◌≡◌, sym, ap, ◌∙◌, subst, length, arith}
use Rattle.std.specs.Vec.{vec_len}
use Rattle.std.specs.Vec.Iter.{into_iter_items}
use Rattle.catalog.specs.Relation.{catalogue_of}
use Rattle.world.specs.Start.{Fills}
use Rattle.world.proofs.NewStores.{all_full, next_full}
use Rattle.world.proofs.SitesUp.{nothing_left}
use Rattle.world.proofs.start.fill_all.Goals as goal

pub returns-clause-fills : goal.returns-clause-fills
returns-clause-fills g c =
    all_full g.S.SiteStore.is_clean g.S.SiteStore.is_sound g.S.SiteStore.kept g.S.SiteStore.refused (catalogue_of c.args.catalog.now) c.args.whole.now c.args.stores.items (into_iter_items c.loop-given.given-iterator) c.loop-given.filled.items
    c.loop-given.invariant.1 (nothing_left _ (sym c.loop-given.invariant.0 ∙ c.in-None.ensures.steps.0))

pub loop-given-preserved : goal.loop-given-preserved
loop-given-preserved g c =
    let S = g.S.SiteStore in
    let catalogue = catalogue_of c.args.catalog.now in
    let steps = c.in-Some.ensures.steps in
    let long : vec_len c.loop-given.filled ≡ length c.loop-given.filled.items = omega (arith, c.loop-given.filled.ok.0) in (
      (let size = c.loop-given.invariant.0 in let more = ap length steps.0 in let left = steps.1 in omega (arith, size, more, left)),
      next_full S.is_clean S.is_sound S.kept S.refused catalogue c.args.whole.now c.args.stores.items (into_iter_items c.loop-given.given-iterator) (into_iter_items c.next.new.self) c.loop-given.filled.items c.push.new.self.items c.in-Some.given c.fill.new.store
          c.loop-given.invariant.1 steps.0 (subst (λ n. Fills S.is_clean S.is_sound S.kept S.refused catalogue c.args.whole.now n c.in-Some.given c.fill.new.store) (c.len.ensures ∙ long) c.in_ok-fill.ensures.fills) c.in_ok-push.ensures.items,
    )
