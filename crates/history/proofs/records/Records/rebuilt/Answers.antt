-- Why `Records::rebuilt` meets its contract.
use Rattle.std.proofs.Common.{◌∙◌, ap, option_map, subst}
use Rattle.meaning.specs.Whole.{FitsSchema}
use Rattle.catalog.specs.FragmentLeaf.{schemas_of}
use Rattle.catalog.specs.Relation.{catalogue_of}
use Rattle.desk.specs.CatalogueDatabase.{IsBase, database}
use Rattle.world.specs.Contents.{held}
use Rattle.world.proofs.Fragments.{rows_so, settles_to, sites_of_list}
use Rattle.world.proofs.InSerial.{serial_shown}
use Rattle.history.proofs.records.Records.rebuilt.Goals as goal

pub returns-clause-serial : goal.returns-clause-serial
returns-clause-serial g c = λ db whole happened past listed stands clean sound run.
    let catalogue = catalogue_of c.args.self.now.machines.desk.catalog in
    let before = held g.D.DeskStore.kept g.S.SiteStore.kept c.args.self.now.machines in
    let of = listed.base.of_catalogue in
    let base = subst (λ x. IsBase (database (catalogue_of x))) c.catalog.ensures c.database_is_of_catalogue.ensures in
    let schemas = of.schemas before.table.version ∙ ap schemas_of stands.here in
    serial_shown db listed.lawful c.rebuilt.result (λ shown. option_map (λ rows. rows.items) shown) whole before happened c.args.relation.now (c.runs_are_serial.ensures db listed whole before happened past run) run.opens.is_whole
    (λ after those fits. rows_so db (schemas_of catalogue) c.rebuilt.result (λ shown. option_map (λ rows. rows.items) shown) after c.args.relation.now schemas (c.rebuilt.ensures.rows after clean sound (sites_of_list db catalogue before of stands.here run.fit) (settles_to db catalogue before after of base.of_catalogue stands.here fits those) (subst (λ all. FitsSchema all after) schemas fits)))
