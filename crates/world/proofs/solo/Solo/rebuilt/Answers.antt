-- Why `Solo::rebuilt` meets its contract.
use Rattle.std.proofs.Common.{refl, subst, ap, ◌∙◌, option_map}
use Rattle.catalog.specs.Relation.{catalogue_of}
use Rattle.protocol.specs.Client.{ReachedLaw}
use Rattle.desk.specs.Database.{language}
use Rattle.desk.specs.CatalogueDatabase.{IsBase, database}
use Rattle.world.specs.Counted.{counts}
use Rattle.world.specs.Contents.{counted, held}
use Rattle.world.specs.Settled.{after_committed}
use Rattle.world.proofs.Anew.{served_fits, served_rebuilds}
use Rattle.world.proofs.Counting.{fit_uncounted}
use Rattle.world.proofs.Fragments.{settles_to, sites_of_fit}
use Rattle.meaning.specs.Whole.{FitsSchema}
use Rattle.catalog.specs.FragmentLeaf.{schemas_of}
use Rattle.world.proofs.Fragments.{rows_so, sites_of_list}
use Rattle.world.proofs.ListSolo.{fits_without, list_served_fits, list_served_rebuilds}
use Rattle.world.proofs.solo.Solo.rebuilt.Goals as goal

pub returns-clause-served : goal.returns-clause-served
returns-clause-served g c = λ whole past clean sound served.
    let catalogue = catalogue_of c.args.self.now.machines.desk.catalog in
    let db = database catalogue in
    let before = held g.D.DeskStore.kept g.S.SiteStore.kept c.args.self.now.machines in
    let count = counts g.D.DeskStore.refused g.S.SiteStore.refused c.args.self.now.machines in
    let base = subst (λ x. IsBase (database (catalogue_of x))) c.catalog.ensures c.database_is_of_catalogue.ensures in
    let machines = counted g.D.DeskStore.kept g.S.SiteStore.kept g.D.DeskStore.refused g.S.SiteStore.refused c.args.self.now.machines in
    let law = subst (λ x. ReachedLaw (language (database (catalogue_of x)))) c.catalog-2.ensures c.one_client_is_a_run.ensures in
    let after = after_committed db past whole in
    let fits = served_fits db law whole machines past served in
    c.rebuilt.ensures.rows after clean sound (sites_of_fit catalogue before (fit_uncounted db before count served.fit)) (settles_to db catalogue before after base.of_catalogue base.of_catalogue refl fits (served_rebuilds db law whole machines past served)) fits

pub returns-clause-fails_after : goal.returns-clause-fails_after
returns-clause-fails_after g c = λ whole past clean sound served.
    let catalogue = catalogue_of c.args.self.now.machines.desk.catalog in
    let db = database catalogue in
    let before = held g.D.DeskStore.kept g.S.SiteStore.kept c.args.self.now.machines in
    let count = counts g.D.DeskStore.refused g.S.SiteStore.refused c.args.self.now.machines in
    let base = subst (λ x. IsBase (database (catalogue_of x))) c.catalog.ensures c.database_is_of_catalogue.ensures in
    let machines = counted g.D.DeskStore.kept g.S.SiteStore.kept g.D.DeskStore.refused g.S.SiteStore.refused c.args.self.now.machines in
    let law = subst (λ x. ReachedLaw (language (database (catalogue_of x)))) c.catalog-2.ensures c.one_client_is_a_run.ensures in
    let after = after_committed db past whole in
    let fits = served_fits db law whole machines past served in
    c.rebuilt.ensures.fails after clean sound (sites_of_fit catalogue before (fit_uncounted db before count served.fit)) (settles_to db catalogue before after base.of_catalogue base.of_catalogue refl fits (served_rebuilds db law whole machines past served)) fits

pub returns-clause-rows : goal.returns-clause-rows
returns-clause-rows g c = λ whole clean sound fit those fits.
    let catalogue = catalogue_of c.args.self.now.machines.desk.catalog in
    let db = database catalogue in
    let before = held g.D.DeskStore.kept g.S.SiteStore.kept c.args.self.now.machines in
    let count = counts g.D.DeskStore.refused g.S.SiteStore.refused c.args.self.now.machines in
    let base = subst (λ x. IsBase (database (catalogue_of x))) c.catalog.ensures c.database_is_of_catalogue.ensures in
    c.rebuilt.ensures.rows whole clean sound (sites_of_fit catalogue before (fit_uncounted db before count fit)) (settles_to db catalogue before whole base.of_catalogue base.of_catalogue refl fits those) fits

pub returns-clause-fails : goal.returns-clause-fails
returns-clause-fails g c = λ whole clean sound fit those fits.
    let catalogue = catalogue_of c.args.self.now.machines.desk.catalog in
    let db = database catalogue in
    let before = held g.D.DeskStore.kept g.S.SiteStore.kept c.args.self.now.machines in
    let count = counts g.D.DeskStore.refused g.S.SiteStore.refused c.args.self.now.machines in
    let base = subst (λ x. IsBase (database (catalogue_of x))) c.catalog.ensures c.database_is_of_catalogue.ensures in
    c.rebuilt.ensures.fails whole clean sound (sites_of_fit catalogue before (fit_uncounted db before count fit)) (settles_to db catalogue before whole base.of_catalogue base.of_catalogue refl fits those) fits

pub returns-clause-lists : goal.returns-clause-lists
returns-clause-lists g c = λ db whole past listed stands clean sound served.
    let catalogue = catalogue_of c.args.self.now.machines.desk.catalog in
    let before = held g.D.DeskStore.kept g.S.SiteStore.kept c.args.self.now.machines in
    let count = counts g.D.DeskStore.refused g.S.SiteStore.refused c.args.self.now.machines in
    let machines = counted g.D.DeskStore.kept g.S.SiteStore.kept g.D.DeskStore.refused g.S.SiteStore.refused c.args.self.now.machines in
    let of = listed.base.of_catalogue in
    let base = subst (λ x. IsBase (database (catalogue_of x))) c.catalog.ensures c.database_is_of_catalogue.ensures in
    let after = after_committed db past whole in
    let fits = list_served_fits db listed whole machines past served in
    let schemas = of.schemas before.table.version ∙ ap schemas_of stands.here in
    let fits_here = subst (λ all. FitsSchema all after) schemas fits in
    let sites = sites_of_list db catalogue before of stands.here (fits_without db before count served.fit) in
    let settles = settles_to db catalogue before after of base.of_catalogue stands.here fits (list_served_rebuilds db listed whole machines past served) in (
      rows_so db (schemas_of catalogue) c.rebuilt.result (λ shown. option_map (λ rows. rows.items) shown) after c.args.relation.now schemas (c.rebuilt.ensures.rows after clean sound sites settles fits_here),
      c.rebuilt.ensures.fails after clean sound sites settles fits_here,
    )
