-- Why `bring_one` meets its contract.
use Rattle.std.proofs.Common.{◌∙◌, ap, subst, filter, option_map}
use Rattle.terms.specs.Cond.{conds_hold}
use Rattle.catalog.specs.Relation.{catalogue_of}
use Rattle.desk.specs.CatalogueDatabase.{IsBase, database}
use Rattle.world.specs.Contents.{held}
use Rattle.world.proofs.Rebuilt.{brought_is}
use Rattle.world.proofs.rebuild.bring_one.Goals as goal

pub returns-clause-brought : goal.returns-clause-brought
returns-clause-brought g c = λ whole clean sound fit those are.
    let before = held g.D.DeskStore.kept g.S.SiteStore.kept c.args.machines.now in
    let catalogue = catalogue_of c.args.machines.now.desk.catalog in
    let base : IsBase (database catalogue) = subst (λ x. IsBase (database (catalogue_of x))) c.catalog.ensures c.database_is_of_catalogue.ensures in
    let fetch = c.args.fetch.now in
    let found = option_map (λ parts. parts.items) c.in_ok-found.found in
    let rows =
    c.meeting-parts.ensures ∙ ap (filter (conds_hold fetch.conds)) c.or_none.ensures
    ∙ brought_is catalogue (base.of_catalogue.formed 0) before whole c.args.decided.now fetch.leaf fetch.conds found fit those are (c.in_ok-found.ensures.parts clean sound fit.seated) in
    c.new.ensures ∙ (λ i. record { leaf = c.in_ok-copy.ensures i; parts = rows i })
