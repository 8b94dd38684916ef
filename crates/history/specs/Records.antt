-- The records of a database that has come to rest: its machines, and what each has done.
use Rattle.std.specs.Prelude.{◌≡◌, ⊤, ℕ, List, [], ◌∷◌, map}
use Rattle.std.specs.List.{AllByRecursion}
use Rattle.catalog.specs.declared.relation.SplitRelation.{SplitRelation}
use Rattle.catalog.specs.Catalogue.{Catalogue}
use Rattle.catalog.specs.FragmentLeaf.{schemas_of}
use Rattle.catalog.specs.Relation.{catalogue_of}
use Rattle.store.specs.declared.commit.DeskKept.{DeskKept}
use Rattle.store.specs.DeskContent.{DeskContent}
use Rattle.store.specs.SiteContent.{SiteContent}
use Rattle.site.specs.declared.site.Site.{Site}
use Rattle.site.specs.Seat.{Seat, seat_from}
use Rattle.desk.specs.CatalogueDatabase.{IsBase, database}
use Rattle.world.specs.declared.machines.Machines.{Machines}
use Rattle.world.specs.Leaves.{known_leaves}
use Rattle.history.specs.declared.entry.Entry.{Entry}
use Rattle.history.specs.declared.records.Past.{Past}
use Rattle.history.specs.DeskHistory.{DeskHolds}
use Rattle.history.specs.SiteHistory.{SiteHistory, SiteHolds, SiteRecorded}
use Rattle.history.specs.Weaving.{SitePast}

-- sites have these names, in their order, and each knows the leaves that the relations of a catalogue can have
abbrev pub AreSitesOf : Catalogue → List (List ℕ) → List Seat → Type 0
AreSitesOf catalogue [] [] = ⊤
AreSitesOf catalogue [] (seat ∷ seats) = ⊥
AreSitesOf catalogue (name ∷ names) [] = ⊥
AreSitesOf catalogue (name ∷ names) (seat ∷ seats) = ((seat.name ≡ name) × (seat.leaves ≡ known_leaves (schemas_of catalogue))) × AreSitesOf catalogue names seats

-- a site, and what it has done
abbrev pub past_of : {S : Type 0} → (S → SiteContent) → Site S → Past → SitePast
past_of content site past = record { opening = past.opening; entries = past.entries.items; last = seat_from content site }

-- so of all sites
abbrev pub pasts_in : {S : Type 0} → (S → SiteContent) → List (Site S) → List Past → List SitePast
pasts_in content [] pasts = []
pasts_in content (site ∷ sites) [] = []
pasts_in content (site ∷ sites) (past ∷ pasts) = past_of content site past ∷ pasts_in content sites pasts

-- cells were taken apart, each of which replays
pub record AreTaken {S : Type 0} (is_clean is_sound : S → Type 0) (content : S → SiteContent) (cells : List (SiteHistory S)) (sites : List (Site S)) (pasts : List Past) : Type 0 where
  pub machines : sites ≡ map (λ (cell : SiteHistory S). cell.site) cells
  pub openings : map (λ (past : Past). past.opening) pasts ≡ map (λ (cell : SiteHistory S). cell.opening) cells
  pub histories : map (λ (past : Past). past.entries.items) pasts ≡ map (λ (cell : SiteHistory S). cell.entries) cells
  pub hold : AllByRecursion (λ (cell : SiteHistory S). SiteHolds is_clean is_sound content cell.opening cell.entries cell.site) cells

-- The machines are those of the catalogue in force, which is left with those that come after it of the ones at the opening. Where their stores are clean, these are sound, and the histories replay from
-- the opening to what the machines are now: the coordinator's in each database that has the catalogues from the opening's number on.
pub record AreRecords {D S : Type 0} (desk_is_clean desk_is_sound : D → Type 0) (desk_content : D → DeskContent) (site_is_clean site_is_sound : S → Type 0) (site_content : S → SiteContent) (machines : Machines D S) (catalogs : List (List (List ℕ) × List SplitRelation)) (opening : DeskKept) (entries : List Entry) (pasts : List Past) : Type 0 where
  pub base : IsBase (database (catalogue_of machines.desk.catalog))
  pub sites : AllByRecursion (λ (site : Site S). site_is_clean site.store) machines.sites.items → AreSitesOf (catalogue_of machines.desk.catalog) machines.desk.catalog.0 (map (seat_from site_content) machines.sites.items)
  pub lasts : map (λ (past : SitePast). past.last) (pasts_in site_content machines.sites.items pasts) ≡ map (seat_from site_content) machines.sites.items
  pub openings : map (λ (past : SitePast). past.opening) (pasts_in site_content machines.sites.items pasts) ≡ map (λ (past : Past). past.opening) pasts
  pub histories : map (λ (past : SitePast). past.entries) (pasts_in site_content machines.sites.items pasts) ≡ map (λ (past : Past). past.entries.items) pasts
  pub desk : DeskHolds desk_is_clean desk_is_sound desk_content catalogs opening entries machines.desk
  pub sites_sound : AllByRecursion (λ (site : Site S). site_is_clean site.store) machines.sites.items → AllByRecursion (λ (site : Site S). site_is_sound site.store) machines.sites.items
  pub recorded : AllByRecursion (λ (site : Site S). site_is_clean site.store) machines.sites.items → AllByRecursion (λ (past : SitePast). SiteRecorded past.opening past.entries past.last) (pasts_in site_content machines.sites.items pasts)
