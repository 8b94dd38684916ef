-- Why `start` meets its contract.
use Rattle.std.proofs.Common.{sym, subst}
use Rattle.catalog.specs.Relation.{catalogue_of}
use Rattle.reader.specs.Printable.{AreDistinct}
use Rattle.store.specs.PlainDesk.{kept_of as desk_kept}
use Rattle.store.specs.PlainSite.{kept_of}
use Rattle.world.specs.Contents.{held}
use Rattle.world.proofs.Openings.{opens_of}
use Rattle.std.proofs.Common.{◌≡◌, ◌∷◌, ◌∙◌, ap, map, List}
use Rattle.std.specs.List.{AllByRecursion}
use Rattle.catalog.specs.Catalogue.{Catalogue}
use Rattle.catalog.specs.Chain.{Follow, IsChain}
use Rattle.catalog.specs.Formed.{IsFormed}
use Rattle.desk.specs.CatalogueDatabase.{databases}
use Rattle.desk.specs.OfCatalogue.{from_number}
use Rattle.world.proofs.ListIsBase.{head_is, list_started}
use Rattle.world.proofs.ListIsLawful.{each_formed, formed_all}
use Rattle.std.proofs.Common.{ℕ}
use Rattle.catalog.specs.declared.relation.SplitRelation.{SplitRelation}
use Rattle.world.specs.Seated.{seats_in}
use Rattle.world.specs.Start.{AllStarted}
use Rattle.world.proofs.start.start.Goals as goal

pub returns-clause-opens : goal.returns-clause-opens
returns-clause-opens c = λ single db placed.
    let desk = c.in_ok-desk.desk in
    let formed = subst (λ x. IsFormed (catalogue_of x)) c.catalog-catalog.ensures c.relations-relations.ensures.formed in
    let started = subst (λ (x : List (List ℕ) × List SplitRelation). AllStarted (catalogue_of x) c.args.whole.now 0 x.0 (seats_in kept_of c.in_ok-sites.sites.items)) c.catalog-catalog.ensures c.in_ok-sites.ensures.started in
    opens_of db (catalogue_of desk.catalog) c.args.whole.now (held desk_kept kept_of (record { alloc = c.args.alloc; desk = desk; sites = c.in_ok-sites.sites; traffic = c.none.result })) formed placed started
    (c.in_ok-desk.ensures.rises db (record { sites = placed.sites; distinct = subst AreDistinct (sym placed.sites) formed.distinct })) c.in_ok-desk.ensures.commits single

pub returns-clause-lists : goal.returns-clause-lists
returns-clause-lists c = λ first rest same fits.
    let desk = c.in_ok-desk.desk in
    let follow : Follow first rest = subst IsChain same c.as_slice.ensures.chain in
    let formed : AllByRecursion IsFormed (first ∷ rest) = subst (AllByRecursion IsFormed) same (each_formed c.args.chain.now (subst (AllByRecursion (λ catalog. IsFormed (catalogue_of catalog))) c.as_slice.ensures.catalogs c.are_formed.ensures.formed)) in
    let stands : catalogue_of desk.catalog ∷ map catalogue_of desk.later.items ≡ first ∷ rest = c.in_ok-desk.ensures.catalogs ∙ ap (from_number 1) same in
    let started = subst (λ (x : List (List ℕ) × List SplitRelation). AllStarted (catalogue_of x) c.args.whole.now 0 x.0 (seats_in kept_of c.in_ok-sites.sites.items)) c.catalog-catalog.ensures c.in_ok-sites.ensures.started in
    let is = head_is (catalogue_of desk.catalog) first (map catalogue_of desk.later.items) rest stands in
    list_started first rest follow (formed_all first rest formed.0 formed.1) c.args.whole.now (held desk_kept kept_of (record { alloc = c.args.alloc; desk = desk; sites = c.in_ok-sites.sites; traffic = c.none.result })) desk c.in_ok-desk.ensures.version c.in_ok-desk.ensures.version stands fits started
    (c.in_ok-desk.ensures.rises (databases first rest) (record { sites = ap (λ (x : Catalogue). x.sites) (sym is); distinct = formed.0.distinct })) c.in_ok-desk.ensures.commits
