-- What the weaving makes of its parts.
use Rattle.std.proofs.Common.{◌≡◌, refl, sym, ap, ◌∙◌, subst, ℕ, List, [], ◌∷◌, map}
use Rattle.std.specs.List.{AllByRecursion}
use Rattle.catalog.specs.declared.relation.SplitRelation.{SplitRelation}
use Rattle.catalog.specs.Catalogue.{Catalogue}
use Rattle.catalog.specs.Formed.{IsFormed}
use Rattle.catalog.specs.FragmentLeaf.{schemas_of}
use Rattle.catalog.specs.Relation.{catalogue_of}
use Rattle.store.specs.declared.commit.DeskKept.{DeskKept}
use Rattle.store.specs.declared.prepared.SiteKept.{SiteKept}
use Rattle.store.specs.DeskContent.{DeskContent}
use Rattle.store.specs.SiteContent.{SiteContent}
use Rattle.site.specs.Seat.{Seat, seat_from}
use Rattle.desk.specs.Database.{Database}
use Rattle.world.specs.declared.event.Entry as world
use Rattle.world.specs.declared.event.Event.{Event}
use Rattle.world.specs.declared.machines.Machines.{Machines}
use Rattle.world.specs.Contents.{OfStores}
use Rattle.world.specs.Leaves.{known_leaves}
use Rattle.world.specs.Listed.{IsListed}
use Rattle.world.proofs.Openings.{has_leaf}
use Rattle.history.specs.declared.brought.Unbrought as unbrought
use Rattle.history.specs.declared.brought.Unbrought.TheVariants as brought
use Rattle.history.specs.declared.entry.Entry.{Entry}
use Rattle.history.specs.declared.merge.Unmerged as unmerged
use Rattle.history.specs.declared.merge.Unmerged.TheVariants as merged
use Rattle.history.specs.declared.records.Past.{Past}
use Rattle.history.specs.declared.told.Told.{Told}
use Rattle.history.specs.declared.weave.WeaveFault.TheVariants as fault
use Rattle.history.specs.Catalogues.{IsOfCatalogues}
use Rattle.history.specs.DeskHistory.{DeskReplays, desk_from}
use Rattle.history.specs.Records.{AreRecords, AreSitesOf, pasts_in}
use Rattle.history.specs.Told.{AllStand}
use Rattle.history.specs.Weaving.{AreRecorded, HasLeaves, SitePast, WovenAreRuns, WovenAreSerial}
use Rattle.history.specs.Woven.{ArePutTogether, IsSettled, WeavesRun, not_brought, out_of_order}

-- ---- faults
pub ordered_is : (why : unmerged.Unmerged) (k : ℕ) → out_of_order why ≡ fault.NotARun k → why ≡ merged.OutOfOrder k
ordered_is merged.Memory k e = cc
ordered_is (merged.OutOfOrder j) k e = let is : j ≡ k = cc in ap merged.OutOfOrder is

pub brought_is : (why : unbrought.Unbrought) (k : ℕ) → not_brought why ≡ fault.NotARun k → why ≡ brought.NotBrought k
brought_is brought.Memory k e = cc
brought_is (brought.NotBrought j) k e = let is : j ≡ k = cc in ap brought.NotBrought is

-- ---- lists
all_of_map : {A B : Type 0} (f : A → B) (P : B → Type 0) (xs : List A) → AllByRecursion P (map f xs) → AllByRecursion (λ x. P (f x)) xs
all_of_map f P [] all = tt
all_of_map f P (x ∷ xs) all = (all.0, all_of_map f P xs all.1)

map_of_map : {A B C : Type 0} (f : A → B) (g : B → C) (xs : List A) → map g (map f xs) ≡ map (λ x. g (f x)) xs
map_of_map f g [] = refl
map_of_map f g (x ∷ xs) = let later = map_of_map f g xs in λ i. g (f x) ∷ later i

-- ---- sites
module _ (c : Catalogue) (formed : IsFormed c) where
  -- sites of a catalogue have its names
  sites_named : (names : List (List ℕ)) (seats : List Seat) → AreSitesOf c names seats → map (λ (seat : Seat). seat.name) seats ≡ names
  sites_named [] [] are = refl
  sites_named [] (seat ∷ seats) are = absurd are
  sites_named (name ∷ names) [] are = absurd are
  sites_named (name ∷ names) (seat ∷ seats) are = let later = sites_named names seats are.1 in λ i. are.0.0 i ∷ later i

-- ---- records of clean stores, at whose opening nothing was decided or in doubt, are those of a run
module _ {D S : Type 0} (desk_is_clean desk_is_sound : D → Type 0) (desk_content : D → DeskContent) (site_is_clean site_is_sound : S → Type 0) (site_content : S → SiteContent)
    (machines : Machines D S) (catalogs : List (List (List ℕ) × List SplitRelation)) (opening : DeskKept) (entries : List Entry) (pasts : List Past) (db : Database) (listed : IsListed db) (of : IsOfCatalogues db opening.version (map catalogue_of catalogs))
    (records : AreRecords desk_is_clean desk_is_sound desk_content site_is_clean site_is_sound site_content machines catalogs opening entries pasts)
    (clean : OfStores desk_is_clean site_is_clean machines) (settled : IsSettled opening (map (λ (past : Past). past.opening) pasts)) where
  abbrev here : Catalogue
  here = catalogue_of machines.desk.catalog

  replays : DeskReplays db desk_content opening entries machines.desk
  replays = records.desk.replays clean.0 db of

  -- the database has the sites of the catalogue in force, and its relations
  sites_are : here.sites ≡ db.sites
  sites_are = sym (listed.base.of_catalogue.sites machines.desk.volatile.version ∙ ap (λ (c : Catalogue). c.sites) replays.has.0)

  schemas_are : schemas_of here ≡ db.schemas
  schemas_are = sym (listed.base.of_catalogue.schemas machines.desk.volatile.version ∙ ap schemas_of replays.has.0)

  -- sites of the catalogue in force have the leaves that any catalogue puts there
  leaves_there : (names : List (List ℕ)) (seats : List Seat) → AreSitesOf here names seats → AllByRecursion (HasLeaves db) seats
  leaves_there [] [] are = tt
  leaves_there [] (seat ∷ seats) are = absurd are
  leaves_there (name ∷ names) [] are = absurd are
  leaves_there (name ∷ names) (seat ∷ seats) are = (
    (λ leaf home. has_leaf (db.catalogue home.version) seat (listed.base.of_catalogue.formed home.version) (are.0.1 ∙ ap known_leaves (schemas_are ∙ listed.base.of_catalogue.schemas home.version)) leaf home.there),
    leaves_there names seats are.1,
  )

  listed_so : AreRecorded db opening entries (desk_from desk_content machines.desk) (pasts_in site_content machines.sites.items pasts)
  listed_so =
      let formed : IsFormed here = records.base.of_catalogue.formed 0 in
      let all = pasts_in site_content machines.sites.items pasts in
      let seats = map (seat_from site_content) machines.sites.items in
      let are = records.sites clean.1 in
      let last : SitePast → Seat = λ past. past.last in
      record {
        desk = replays.recorded;
        sites = records.recorded clean.1;
        names = sym (map_of_map last (λ (seat : Seat). seat.name) all) ∙ ap (map (λ (seat : Seat). seat.name)) records.lasts ∙ sites_named here formed here.sites seats are ∙ sites_are;
        leaves = all_of_map last (HasLeaves db) all (subst (AllByRecursion (HasLeaves db)) (sym records.lasts) (leaves_there here.sites seats are));
        decided = settled.0;
        prepared = all_of_map (λ (past : SitePast). past.opening) (λ (kept : SiteKept). kept.rows.prepared ≡ []) all (subst (AllByRecursion (λ (kept : SiteKept). kept.rows.prepared ≡ [])) (sym records.openings) settled.1);
      }

  pub weaves_run : WovenAreRuns db → WovenAreSerial db → (lists : List (List Told)) (happened : List world.Entry) (events : List Event) →
      ArePutTogether machines.desk.catalog.0 (entries ∷ map (λ (past : Past). past.entries.items) pasts) happened → events ≡ map (λ (entry : world.Entry). entry.event) happened → AllStand (schemas_of here) entries lists →
      WeavesRun db opening entries (desk_from desk_content machines.desk) (pasts_in site_content machines.sites.items pasts) machines.desk.later.items lists events
  weaves_run runs serial lists happened events put told stand =
      let last = desk_from desk_content machines.desk in
      let all = pasts_in site_content machines.sites.items pasts in
      let later = machines.desk.later.items in
      let own : ArePutTogether db.sites (entries ∷ map (λ (past : SitePast). past.entries) all) happened =
      subst (λ sites. ArePutTogether sites (entries ∷ map (λ (past : SitePast). past.entries) all) happened) sites_are (subst (λ others. ArePutTogether machines.desk.catalog.0 (entries ∷ others) happened) (sym records.histories) put) in
      record {
        woven = record { happened = happened; put = own; told = told; stand = subst (λ schemas. AllStand schemas entries lists) schemas_are stand };
        run = λ whole rebuilds.
            let ran = runs whole opening entries last all later own.acts happened listed_so replays.still rebuilds own.merged own.have in
            record { past = ran.0; run = ran.1; serial = serial whole opening entries last all later own.acts happened listed_so replays.still rebuilds own.merged own.have };
      }
