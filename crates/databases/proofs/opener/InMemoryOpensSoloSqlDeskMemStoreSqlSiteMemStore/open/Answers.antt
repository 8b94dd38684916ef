use Rattle.std.proofs.Common.{◌≡◌, [], ap, length, refl, subst, sym, ◌∙◌}
use Rattle.std.specs.FinMap as finite
use Rattle.meaning.specs.Whole.{FitsSchema}
use Rattle.catalog.specs.Catalogue.{Catalogue}
use Rattle.catalog.specs.FragmentLeaf.{schemas_of}
use Rattle.catalog.specs.Relation.{catalogue_of}
use Rattle.desk.specs.CatalogueDatabase.{databases}
use Rattle.world.specs.Chain.{sites_of}
use Rattle.databases.specs.Origin.{New, no_rows}
use Rattle.databases.specs.SqlStores.{AreNewSites}
use Rattle.lines.specs.PlayLoad.{emptied}
use Rattle.databases.proofs.ListClientLemmas.{behind_of, nothing_told}
use Rattle.databases.proofs.OpenerLemmas.{first_one}
use Rattle.databases.proofs.SoloLemmas.{emptied-fits}
use Rattle.databases.proofs.SqlStoresLemmas.{are_new}
use Rattle.databases.proofs.opener.InMemoryOpensSoloSqlDeskMemStoreSqlSiteMemStore.open.Goals as goal

pub open_on-requires : goal.open_on-requires
open_on-requires c = c.in_ok-sites.ensures.all ∙ ap (λ chain. length (sites_of chain)) (sym c.first_of-first.ensures.1)

pub returns-in-Ok-clause-ok : goal.returns-in-Ok-clause-ok
returns-in-Ok-clause-ok c =
    let all_empty = λ (catalogue : Catalogue) (is : catalogue_of c.first_of-first.result.now ≡ catalogue).
    let empty : c.in_ok-whole.whole ≡ no_rows catalogue = c.in_ok-whole.ensures ∙ ap (λ schemas. emptied schemas finite.empty) (c.schema.ensures.schemas ∙ ap schemas_of is) in
    empty in
    let all_fit = λ (catalogue : Catalogue) (is : catalogue_of c.first_of-first.result.now ≡ catalogue).
    subst (FitsSchema (schemas_of catalogue)) (sym (all_empty catalogue is)) (emptied-fits (schemas_of catalogue)) in
    let all_new = λ (catalogue : Catalogue) (is : catalogue_of c.first_of-first.result.now ≡ catalogue).
    are_new catalogue c.in_ok-desk.desk c.in_ok-sites.sites.items c.in_ok-desk.ensures.new (subst (λ (own : Catalogue). AreNewSites own c.in_ok-sites.sites.items) is c.in_ok-sites.ensures.new) in
    record {
      origin = New;
      is_origin = refl;
      last = λ catalogue one.
          let is = first_one c.args.chain.now c.first_of-first.result.now c.first_of-first.ensures.0 catalogue [] c.first_of-first.ensures.1 one in
          let last = c.in-Ok.ensures.single catalogue one in
          record {
            idle = c.in-Ok.ensures.idle.0;
            goes_on = λ whole begins clean. record {
              going = c.in-Ok.ensures.idle.1;
              catalog = last.is;
              sound = c.in-Ok.ensures.sound clean;
              served = rw (begins, sym (all_empty catalogue is)) (c.in-Ok.ensures.served catalogue last clean (all_new catalogue is) (all_fit catalogue is));
              stands = c.in-Ok.ensures.stands catalogue last clean (all_new catalogue is) (all_fit catalogue is);
            };
          };
      over = λ first rest chain.
          let is = first_one c.args.chain.now c.first_of-first.result.now c.first_of-first.ensures.0 first rest c.first_of-first.ensures.1 chain in
          record {
            idle = c.in-Ok.ensures.idle.0;
            goes_on = λ whole begins clean.
                let served = c.in-Ok.ensures.lists first rest chain (all_fit first is) c.in_ok-desk.ensures.new.nothing.version clean (all_new first is) in
                record {
                  going = c.in-Ok.ensures.idle.1;
                  number = refl;
                  here = served.1.here;
                  next = behind_of (databases first rest) c.in-Ok.database.machines.desk.volatile.version c.in-Ok.database.machines.desk.later.items served.1.next;
                  sound = c.in-Ok.ensures.sound clean;
                  told = nothing_told (databases first rest) c.in_ok-whole.whole whole _ (all_empty first is ∙ sym begins) served.0;
                };
          };
    }
