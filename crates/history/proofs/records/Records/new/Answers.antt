-- Why `Records::new` meets its contract.
use Rattle.std.proofs.Common.{◌≡◌, ℕ, List, map, subst, sym, true}
use Rattle.std.specs.List.{AllByRecursion}
use Rattle.catalog.specs.declared.relation.SplitRelation.{SplitRelation}
use Rattle.catalog.specs.Relation.{catalogue_of}
use Rattle.site.specs.declared.site.Site.{Site}
use Rattle.site.specs.Seat.{seat_from}
use Rattle.desk.specs.CatalogueDatabase.{IsBase, database}
use Rattle.history.specs.Records.{AreSitesOf}
use Rattle.history.specs.SiteHistory.{SiteHistory}
use Rattle.history.proofs.Taken.{taken_histories, taken_lasts, taken_openings, taken_recorded, taken_sound}
use Rattle.history.proofs.records.Records.new.Goals as goal

pub returns-then-not-branch-clause-strangers : goal.returns-then-not-branch-clause-strangers
returns-then-not-branch-clause-strangers g c = λ _ clean are.
    let yes : c.in_ok-are_sites_of.field-0 ≡ true = (c.in_ok-are_sites_of.ensures (rw c.as_slice.ensures.value clean)).1 (rw (c.as_slice.ensures.value, c.sites.ensures, c.catalog-catalog.ensures) are) in
    let no = c.if-not-branch.true in
    cc

pub returns-clause-records : goal.returns-clause-records
returns-clause-records g c =
    let kept = g.S.SiteStore.kept in
    let is_clean = g.S.SiteStore.is_clean in
    let is_sound = g.S.SiteStore.is_sound in
    let sites = c.in_ok-sites.field-0.sites.items in
    let pasts = c.in_ok-sites.field-0.pasts.items in
    let taken = c.in_ok-sites.ensures in
    let cells = c.args.sites.items in
    let opened = c.into_parts-catalogs.ensures in
    let yes : c.in_ok-are_sites_of.field-0 ≡ true = let no = c.if-not-branch.false in cc in
    let Are : List (List ℕ) × List SplitRelation → List (List ℕ) → List (SiteHistory g.row.S.Denot) → Type 0 = λ catalog names all. AreSitesOf (catalogue_of catalog) names (map (seat_from kept) (map (λ (cell : SiteHistory g.row.S.Denot). cell.site) all)) in
    record {
      base = subst (λ desk. IsBase (database (catalogue_of desk.catalog))) (sym opened.desk) (subst (λ (catalog : List (List ℕ) × List SplitRelation). IsBase (database (catalogue_of catalog))) c.catalog-catalog.ensures c.database_is_of_catalogue.ensures);
      sites = λ clean.
          let of_cells = subst (AllByRecursion (λ (site : Site g.row.S.Denot). is_clean site.store)) taken.machines clean in
          let are = (c.in_ok-are_sites_of.ensures (rw c.as_slice.ensures.value of_cells)).0 yes in
          let in_slice : Are c.catalog-catalog.result.now c.sites.result.now cells = subst (Are c.catalog-catalog.result.now c.sites.result.now) c.as_slice.ensures.value are in
          let in_order : Are c.catalog-catalog.result.now c.catalog-catalog.result.now.0 cells = subst (λ names. Are c.catalog-catalog.result.now names cells) c.sites.ensures in_slice in
          let here : Are c.args.desk.desk.catalog c.args.desk.desk.catalog.0 cells = subst (λ catalog. Are catalog catalog.0 cells) c.catalog-catalog.ensures in_order in
          subst (λ desk. AreSitesOf (catalogue_of desk.catalog) desk.catalog.0 (map (seat_from kept) sites)) (sym opened.desk)
          (subst (λ all. AreSitesOf (catalogue_of c.args.desk.desk.catalog) c.args.desk.desk.catalog.0 (map (seat_from kept) all)) (sym taken.machines) here);
      lasts = taken_lasts is_clean is_sound kept cells sites pasts taken;
      openings = taken_openings is_clean is_sound kept cells sites pasts taken;
      histories = taken_histories is_clean is_sound kept cells sites pasts taken;
      desk = opened.replays;
      sites_sound = taken_sound is_clean is_sound kept cells sites pasts taken;
      recorded = taken_recorded is_clean is_sound kept cells sites pasts taken;
    }
