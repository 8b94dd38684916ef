-- Why `World::rebuilt` meets its contract.
use Rattle.std.proofs.Common.{◌∙◌, ap, subst, option_map, IfErr}
use Rattle.meaning.specs.Whole.{FitsSchema}
use Rattle.catalog.specs.FragmentLeaf.{schemas_of}
use Rattle.catalog.specs.Relation.{catalogue_of}
use Rattle.desk.specs.CatalogueDatabase.{IsBase, database}
use Rattle.world.specs.Counted.{counts}
use Rattle.world.specs.Fault.{FailsFor}
use Rattle.world.specs.Contents.{held}
use Rattle.world.proofs.Fragments.{rows_so, settles_to, sites_of_list}
use Rattle.world.proofs.InSerial.{serial_gives, serial_shown}
use Rattle.world.proofs.world.World.rebuilt.Goals as goal

pub returns-clause-rows : goal.returns-clause-rows
returns-clause-rows g c = λ db whole listed stands clean sound fit those fits.
    let catalogue = catalogue_of c.args.self.now.machines.desk.catalog in
    let before = held g.D.DeskStore.kept g.S.SiteStore.kept c.args.self.now.machines in
    let of = listed.base.of_catalogue in
    let base = subst (λ x. IsBase (database (catalogue_of x))) c.catalog.ensures c.database_is_of_catalogue.ensures in
    let schemas = of.schemas before.table.version ∙ ap schemas_of stands.here in
    rows_so db (schemas_of catalogue) c.rebuilt.result (λ shown. option_map (λ rows. rows.items) shown) whole c.args.relation.now schemas (c.rebuilt.ensures.rows whole clean sound (sites_of_list db catalogue before of stands.here fit) (settles_to db catalogue before whole of base.of_catalogue stands.here fits those) (subst (λ all. FitsSchema all whole) schemas fits))

pub returns-clause-fails : goal.returns-clause-fails
returns-clause-fails g c = λ db whole listed stands clean sound fit those fits.
    let catalogue = catalogue_of c.args.self.now.machines.desk.catalog in
    let before = held g.D.DeskStore.kept g.S.SiteStore.kept c.args.self.now.machines in
    let of = listed.base.of_catalogue in
    let base = subst (λ x. IsBase (database (catalogue_of x))) c.catalog.ensures c.database_is_of_catalogue.ensures in
    let schemas = of.schemas before.table.version ∙ ap schemas_of stands.here in
    c.rebuilt.ensures.fails whole clean sound (sites_of_list db catalogue before of stands.here fit) (settles_to db catalogue before whole of base.of_catalogue stands.here fits those) (subst (λ all. FitsSchema all whole) schemas fits)

pub returns-clause-serial : goal.returns-clause-serial
returns-clause-serial g c = λ db whole past listed stands clean sound run.
    let catalogue = catalogue_of c.args.self.now.machines.desk.catalog in
    let before = held g.D.DeskStore.kept g.S.SiteStore.kept c.args.self.now.machines in
    let of = listed.base.of_catalogue in
    let base = subst (λ x. IsBase (database (catalogue_of x))) c.catalog.ensures c.database_is_of_catalogue.ensures in
    let schemas = of.schemas before.table.version ∙ ap schemas_of stands.here in
    serial_shown db listed.lawful c.rebuilt.result (λ shown. option_map (λ rows. rows.items) shown) whole before c.args.self.now.entries.items c.args.relation.now (c.runs_are_serial.ensures db listed whole before c.args.self.now.entries.items past run) run.opens.is_whole
    (λ after those fits. rows_so db (schemas_of catalogue) c.rebuilt.result (λ shown. option_map (λ rows. rows.items) shown) after c.args.relation.now schemas (c.rebuilt.ensures.rows after clean sound (sites_of_list db catalogue before of stands.here run.fit) (settles_to db catalogue before after of base.of_catalogue stands.here fits those) (subst (λ all. FitsSchema all after) schemas fits)))

pub returns-clause-fails_after : goal.returns-clause-fails_after
returns-clause-fails_after g c = λ db whole past listed stands clean sound run.
    let catalogue = catalogue_of c.args.self.now.machines.desk.catalog in
    let before = held g.D.DeskStore.kept g.S.SiteStore.kept c.args.self.now.machines in
    let of_counts = counts g.D.DeskStore.refused g.S.SiteStore.refused in
    let of = listed.base.of_catalogue in
    let base = subst (λ x. IsBase (database (catalogue_of x))) c.catalog.ensures c.database_is_of_catalogue.ensures in
    let schemas = of.schemas before.table.version ∙ ap schemas_of stands.here in
    serial_gives db listed.lawful (IfErr c.rebuilt.result (FailsFor (of_counts c.args.self.now.machines) (of_counts c.rebuilt.new.machines))) whole before c.args.self.now.entries.items (c.runs_are_serial.ensures db listed whole before c.args.self.now.entries.items past run) run.opens.is_whole
    (λ after those fits. c.rebuilt.ensures.fails after clean sound (sites_of_list db catalogue before of stands.here run.fit) (settles_to db catalogue before after of base.of_catalogue stands.here fits those) (subst (λ all. FitsSchema all after) schemas fits))
