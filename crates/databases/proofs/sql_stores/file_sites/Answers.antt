use Rattle.std.proofs.Common.{◌≡◌, ◌++◌, ◌∷◌, [], ◌+◌, arith, length, length-append, rules}
use Rattle.catalog.specs.FragmentLeaf.{schemas_of}
use Rattle.catalog.specs.Relation.{catalogue_of}
use Rattle.world.specs.Leaves.{known_leaves}
use Rattle.world.proofs.Opened.{all_more}
use Rattle.databases.proofs.sql_stores.file_sites.Goals as goal

pub loop-place-preserved : goal.loop-place-preserved
loop-place-preserved g c =
    let catalogue = catalogue_of c.args.catalog.now in
    let sites = c.loop-place.sites.items in
    let site = c.in_ok-site.site in
    let put : c.push.new.self.items ≡ sites ++ site ∷ [] = search rules in
    let count : length (sites ++ site ∷ []) ≡ c.loop-place.place + 1 = simp length-append (omega (arith, c.loop-place.invariant.1)) in
    rw put (all_more (λ one. one.leaves.items ≡ known_leaves (schemas_of catalogue)) sites site c.loop-place.invariant.0 c.in_ok-site.ensures.leaves, count)
