-- Why `site_cells` meets its contract.
use Rattle.std.proofs.Common.{◌≡◌, ◌<◌, ◌++◌, ◌∷◌, [], ap, arith, get_or, length, sym, ◌∙◌, subst, ℕ, List}
use Rattle.std.specs.Vec.Iter.{into_iter_items}
use Rattle.catalog.specs.Relation.{catalogue_of}
use Rattle.wire.specs.Opening.{AreFresh, IsFresh}
use Rattle.wire.proofs.SiteCells.{all_fresh, next_fresh, nothing_left}
use Rattle.wire.proofs.cells.site_cells.Goals as goal

pub returns : goal.returns
returns g c =
    subst (λ (names : List (List ℕ)). AreFresh (catalogue_of c.args.catalog.now) names c.loop-store.cells.items) c.sites-names.ensures
    (all_fresh g.S.SiteStore.is_clean g.S.SiteStore.kept (catalogue_of c.args.catalog.now) c.sites-names.result.now (into_iter_items c.loop-store.store-iterator) c.loop-store.cells.items
    c.loop-store.invariant.1 (nothing_left _ (sym c.loop-store.invariant.0 ∙ c.in-None.ensures.steps.0)))

pub loop-store-preserved : goal.loop-store-preserved
loop-store-preserved g c =
    let yields : into_iter_items c.loop-store.store-iterator ≡ c.in-Some.store ∷ into_iter_items c.next.new.self = c.in-Some.ensures.steps.0 in
    let place : c.len-place.result ≡ length c.loop-store.cells.items = c.len-place.ensures ∙ c.loop-store.cells.ok.0 in
    let at : c.index-names-place.result ≡ get_or c.sites-names.result.now (length c.loop-store.cells.items) c.index-names-place.result = subst (λ n. c.index-names-place.result ≡ get_or c.sites-names.result.now n c.index-names-place.result) place c.index-names-place.is in
    let here : IsFresh (catalogue_of c.args.catalog.now) c.index-names-place.result c.in_ok-cell.cell = c.in_ok-cell.ensures in
    let more : c.push.new.self.items ≡ c.loop-store.cells.items ++ c.in_ok-cell.cell ∷ [] = c.in_ok-push.ensures.items in
    let below : length c.loop-store.cells.items < length c.sites-names.result.now = let size = c.loop-store.invariant.1.size in let left = ap length yields in omega (arith, size, left) in
    (let counted = c.in-Some.ensures.steps.1 in let was = c.loop-store.invariant.0 in let left = ap length yields in omega (arith, counted, was, left), next_fresh g.S.SiteStore.is_clean g.S.SiteStore.kept (catalogue_of c.args.catalog.now) c.sites-names.result.now (into_iter_items c.loop-store.store-iterator) (into_iter_items c.next.new.self) c.loop-store.cells.items c.push.new.self.items c.index-names-place.result c.index-names-place.result c.in-Some.store c.in_ok-cell.cell below c.loop-store.invariant.1 yields at here more)
