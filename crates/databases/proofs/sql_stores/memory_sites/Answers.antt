use Rattle.std.proofs.Common.{◌≡◌, ◌++◌, ◌∷◌, [], ◌+◌, arith, length, length-append, rules}
use Rattle.catalog.specs.Relation.{catalogue_of}
use Rattle.world.proofs.Opened.{all_more}
use Rattle.databases.specs.SqlStores.{IsNewSite}
use Rattle.databases.proofs.sql_stores.memory_sites.Goals as goal

pub loop-place-preserved : goal.loop-place-preserved
loop-place-preserved c =
    let sites = c.loop-place.sites.items in
    let site = c.in_ok-site.site in
    let put : c.push.new.self.items ≡ sites ++ site ∷ [] = search rules in
    let count : length (sites ++ site ∷ []) ≡ c.loop-place._place + 1 = simp length-append (omega (arith, c.loop-place.invariant.1)) in
    rw put (all_more (IsNewSite (catalogue_of c.args.catalog.now)) sites site c.loop-place.invariant.0 c.in_ok-site.ensures.new, count)
