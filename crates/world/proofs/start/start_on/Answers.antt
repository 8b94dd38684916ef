-- Why `start_on` meets its contract.
use Rattle.std.proofs.Common.{sym, ap, ◌∙◌, subst, length, List, [], ℕ}
use Rattle.catalog.specs.Relation.{catalogue_of}
use Rattle.reader.specs.Printable.{AreDistinct}
use Rattle.world.specs.Contents.{held}
use Rattle.world.proofs.ComingUp.{all_sound}
use Rattle.world.proofs.NewStores.{all_started, as_many, given_clean}
use Rattle.world.proofs.Openings.{opens_of}
use Rattle.std.proofs.Common.{◌≡◌, ◌∷◌, map}
use Rattle.std.specs.List.{AllByRecursion}
use Rattle.catalog.specs.Catalogue.{Catalogue}
use Rattle.catalog.specs.Chain.{Follow, IsChain}
use Rattle.catalog.specs.Formed.{IsFormed}
use Rattle.desk.specs.CatalogueDatabase.{databases}
use Rattle.desk.specs.OfCatalogue.{from_number}
use Rattle.world.specs.Start.{AreNew}
use Rattle.world.proofs.ListIsBase.{head_is, list_started}
use Rattle.world.proofs.ListIsLawful.{each_formed, formed_all}
use Rattle.catalog.specs.declared.relation.SplitRelation.{SplitRelation}
use Rattle.world.specs.Placed.{IsPlaced}
use Rattle.world.specs.Seated.{seats_in}
use Rattle.world.specs.Start.{AllStarted}
use Rattle.world.proofs.start.start_on.Goals as goal

pub sites_up-requires : goal.sites_up-requires
sites_up-requires g c =
    let S = g.S.SiteStore in
    as_many S.is_clean S.is_sound S.kept S.refused (catalogue_of c.catalog-catalog.result.now) c.args.whole.now 0 c.args.sites.items c.in_ok-filled.filled.items c.in_ok-filled.ensures.fills ∙ (c.requires ∙ sym (ap (λ (sites : List (List ℕ)). length sites) c.in_ok-desk.ensures.sites) ∙ sym (ap (λ (x : List (List ℕ) × List SplitRelation). length x.0) c.catalog-catalog.ensures))

pub returns-clause-opens : goal.returns-clause-opens
returns-clause-opens g c = λ clean new single db placed.
    let D = g.D.DeskStore in
    let S = g.S.SiteStore in
    let desk = c.in_ok-desk.desk in
    let up = c.in_ok-desk.ensures.up in
    let here = catalogue_of c.catalog-catalog.result.now in
    let back = sym (ap catalogue_of c.catalog-catalog.ensures) in
    let formed = c.relations-relations.ensures.formed in
    let fresh = subst (λ x. AreNew D.is_sound D.kept S.is_sound S.kept x c.args.desk c.args.sites.items) back new in
    let there = subst (λ x. IsPlaced db desk.volatile.version x c.args.whole.now) back placed in
    opens_of db here c.args.whole.now (held D.kept S.kept (record { alloc = c.args.alloc; desk = desk; sites = c.in_ok-sites.sites; traffic = c.none.result })) formed there
    (all_started S.is_clean S.is_sound S.kept S.refused here c.args.whole.now 0 here.sites c.args.sites.items c.in_ok-filled.filled.items c.in_ok-sites.sites.items c.in_ok-filled.ensures.fills c.in_ok-sites.ensures.up clean.1 fresh.sound.1 fresh.keep.leaves fresh.keep.sites)
    (up.rises db (record { sites = placed.sites; distinct = subst AreDistinct (sym there.sites) formed.distinct }) clean.0) (λ txn. (up.life clean.0).commits txn ∙ fresh.keep.commits txn) single

pub returns-clause-clean : goal.returns-clause-clean
returns-clause-clean g c = λ clean.
    let S = g.S.SiteStore in
    let here = catalogue_of c.catalog-catalog.result.now in
    (c.in_ok-desk.ensures.up.leaves_store.clean clean.0, given_clean S.is_clean S.is_sound S.kept S.refused here c.args.whole.now here.sites c.args.sites.items c.in_ok-filled.filled.items c.in_ok-sites.sites.items c.in_ok-filled.ensures.fills c.in_ok-sites.ensures.up clean.1)

pub returns-clause-sound : goal.returns-clause-sound
returns-clause-sound g c = λ clean.
    let S = g.S.SiteStore in
    let up = c.in_ok-desk.ensures.up in
    let here = catalogue_of c.catalog-catalog.result.now in
    (up.leaves_store.sound clean.0 (up.learnt clean.0), all_sound S.is_clean S.is_sound S.kept S.refused here here.sites c.in_ok-filled.filled.items c.in_ok-sites.sites.items c.in_ok-sites.ensures.up clean.1)

pub returns-clause-lists : goal.returns-clause-lists
returns-clause-lists g c = λ first rest same fits one clean new.
    let D = g.D.DeskStore in
    let S = g.S.SiteStore in
    let desk = c.in_ok-desk.desk in
    let up = c.in_ok-desk.ensures.up in
    let here = catalogue_of c.catalog-catalog.result.now in
    let ahead = ap catalogue_of c.catalog-catalog.ensures in
    let follow : Follow first rest = subst IsChain same c.as_slice.ensures.chain in
    let formed : AllByRecursion IsFormed (first ∷ rest) = subst (AllByRecursion IsFormed) same (each_formed c.args.chain.now (subst (AllByRecursion (λ catalog. IsFormed (catalogue_of catalog))) c.as_slice.ensures.catalogs c.are_formed.ensures.formed)) in
    let own = up.rises (databases here []) (record { sites = ap (λ (x : Catalogue). x.sites) ahead; distinct = c.relations-relations.ensures.formed.distinct }) clean.0 in
    let version : desk.volatile.version ≡ 1 = own.fits.version ∙ (up.life clean.0).version ∙ one in
    let stands : catalogue_of desk.catalog ∷ map catalogue_of desk.later.items ≡ first ∷ rest = c.in_ok-desk.ensures.catalogs ∙ ap (λ cs. from_number desk.volatile.version cs) same ∙ ap (λ n. from_number n (first ∷ rest)) version in
    let is = head_is (catalogue_of desk.catalog) first (map catalogue_of desk.later.items) rest stands in
    let fresh = subst (λ x. AreNew D.is_sound D.kept S.is_sound S.kept x c.args.desk c.args.sites.items) (sym is ∙ sym ahead) new in
    let started = subst (λ (x : Catalogue). AllStarted x c.args.whole.now 0 x.sites (seats_in S.kept c.in_ok-sites.sites.items)) ahead
    (all_started S.is_clean S.is_sound S.kept S.refused here c.args.whole.now 0 here.sites c.args.sites.items c.in_ok-filled.filled.items c.in_ok-sites.sites.items c.in_ok-filled.ensures.fills c.in_ok-sites.ensures.up clean.1 fresh.sound.1 fresh.keep.leaves fresh.keep.sites) in
    list_started first rest follow (formed_all first rest formed.0 formed.1) c.args.whole.now (held D.kept S.kept (record { alloc = c.args.alloc; desk = desk; sites = c.in_ok-sites.sites; traffic = c.none.result })) desk version version stands fits started
    (up.rises (databases first rest) (record { sites = ap (λ (x : Catalogue). x.sites) (sym is); distinct = formed.0.distinct }) clean.0) (λ txn. (up.life clean.0).commits txn ∙ fresh.keep.commits txn)
