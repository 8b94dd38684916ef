use Rattle.std.proofs.Common.{◌≡◌, ◌∷◌, [], List, ap, map, refl, subst, sym, ◌∙◌}
use Rattle.std.specs.FinMap as finite
use Rattle.meaning.specs.Whole.{FitsSchema, Relations}
use Rattle.catalog.specs.Catalogue.{Catalogue}
use Rattle.catalog.specs.FragmentLeaf.{schemas_of}
use Rattle.catalog.specs.Relation.{catalogue_of}
use Rattle.store.specs.PlainDesk.{kept_of as desk_kept}
use Rattle.store.specs.PlainSite.{kept_of}
use Rattle.desk.specs.CatalogueDatabase.{database, databases}
use Rattle.world.specs.Contents.{unrefused}
use Rattle.world.specs.Client.{IsServed}
use Rattle.databases.specs.Origin.{New}
use Rattle.lines.specs.PlayLoad.{emptied}
use Rattle.databases.proofs.ListClientLemmas.{behind_of, nothing_told}
use Rattle.databases.proofs.OpenerLemmas.{first_one}
use Rattle.databases.proofs.SoloLemmas.{emptied-fits}
use Rattle.databases.proofs.opener.ListsOpensSoloPlainDeskPlainSite.open.Goals as goal

pub returns-in-Ok-clause-ok : goal.returns-in-Ok-clause-ok
returns-in-Ok-clause-ok c =
    let all_empty = λ (catalogue : Catalogue) (later : List Catalogue) (chain : map catalogue_of c.args.chain.now ≡ catalogue ∷ later).
    let is = first_one c.args.chain.now c.first_of.result.now c.first_of.ensures.0 catalogue later c.first_of.ensures.1 chain in
    c.in_ok-whole.ensures ∙ ap (λ schemas. emptied schemas finite.empty) (c.schema.ensures.schemas ∙ ap schemas_of is) in
    let all_fit = λ (catalogue : Catalogue) (later : List Catalogue) (chain : map catalogue_of c.args.chain.now ≡ catalogue ∷ later).
    subst (FitsSchema (schemas_of catalogue)) (sym (all_empty catalogue later chain)) (emptied-fits (schemas_of catalogue)) in
    record {
      origin = New;
      is_origin = refl;
      last = λ catalogue one.
          let empty = all_empty catalogue [] one in
          let fits_schema = all_fit catalogue [] one in
          let last = c.in-Ok.ensures.single catalogue one in
          record {
            idle = c.in-Ok.ensures.idle.0;
            goes_on = λ whole begins clean. record {
              going = c.in-Ok.ensures.idle.1;
              catalog = last.is;
              sound = c.in-Ok.ensures.sound;
              served = subst (λ (whole : Relations). IsServed (database catalogue) whole (unrefused desk_kept kept_of c.in-Ok.database.machines) []) (empty ∙ sym begins) (c.in-Ok.ensures.served catalogue fits_schema last);
              stands = c.in-Ok.ensures.stands catalogue fits_schema last;
            };
          };
      over = λ first rest chain.
          let served = c.in-Ok.ensures.lists first rest chain (all_fit first rest chain) in
          record {
            idle = c.in-Ok.ensures.idle.0;
            goes_on = λ whole begins clean. record {
              going = c.in-Ok.ensures.idle.1;
              number = refl;
              here = served.1.here;
              next = behind_of (databases first rest) c.in-Ok.database.machines.desk.volatile.version c.in-Ok.database.machines.desk.later.items served.1.next;
              sound = c.in-Ok.ensures.sound;
              told = nothing_told (databases first rest) c.in_ok-whole.whole whole (unrefused desk_kept kept_of c.in-Ok.database.machines) (all_empty first rest chain ∙ sym begins) served.0;
            };
          };
    }
