-- Where the machines of records stand in a database's list of catalogues.
use Rattle.std.proofs.Common.{List, [], ◌∷◌, ℕ, map, suc}
use Rattle.catalog.specs.declared.relation.SplitRelation.{SplitRelation}
use Rattle.catalog.specs.Relation.{catalogue_of}
use Rattle.store.specs.declared.commit.DeskKept.{DeskKept}
use Rattle.store.specs.DeskContent.{DeskContent}
use Rattle.store.specs.SiteContent.{SiteContent}
use Rattle.desk.specs.Database.{Database}
use Rattle.desk.specs.OfCatalogue.{AreNextOf}
use Rattle.world.specs.declared.machines.Machines.{Machines}
use Rattle.world.specs.Listed.{StandsIn}
use Rattle.history.specs.declared.entry.Entry.{Entry}
use Rattle.history.specs.declared.records.Past.{Past}
use Rattle.history.specs.Catalogues.{HasFrom, IsOfCatalogues}
use Rattle.history.specs.Records.{AreRecords}

-- those that a database has behind a number come after it
next_from : (db : Database) (n : ℕ) (later : List (List (List ℕ) × List SplitRelation)) → HasFrom db (suc n) (map catalogue_of later) → AreNextOf db n later
next_from db n [] has = tt
next_from db n (catalog ∷ later) has = (has.0, next_from db (suc n) later has.1)

-- the machines stand in each database that has the catalogues from the opening's number on
pub stands_so : {D S : Type 0} (desk_is_clean desk_is_sound : D → Type 0) (desk_content : D → DeskContent) (site_is_clean site_is_sound : S → Type 0) (site_content : S → SiteContent) (machines : Machines D S) (catalogs : List (List (List ℕ) × List SplitRelation)) (opening : DeskKept) (entries : List Entry) (pasts : List Past)
    → AreRecords desk_is_clean desk_is_sound desk_content site_is_clean site_is_sound site_content machines catalogs opening entries pasts → desk_is_clean machines.desk.store → (db : Database) → IsOfCatalogues db opening.version (map catalogue_of catalogs) → StandsIn db machines.desk
stands_so desk_is_clean desk_is_sound desk_content site_is_clean site_is_sound site_content machines catalogs opening entries pasts records clean db of =
    let replays = records.desk.replays clean db of in
    record { here = replays.has.0; next = next_from db machines.desk.volatile.version machines.desk.later.items replays.has.1 }
