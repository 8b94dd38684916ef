-- A catalogue's database has each leaf at its site, so machines that start are a run of nothing.
use Rattle.std.proofs.Common.{ℕ, refl, sym, subst, []}
use Rattle.meaning.specs.Whole.{FitsSchema, Relations}
use Rattle.catalog.specs.Catalogue.{Catalogue}
use Rattle.catalog.specs.Formed.{IsFormed}
use Rattle.catalog.specs.FragmentLeaf.{schemas_of}
use Rattle.desk.specs.CatalogueDatabase.{database}
use Rattle.world.specs.Machines.{Machines, world_of}
use Rattle.world.specs.Placed.{IsPlaced, Opens}
use Rattle.world.specs.Runs.{IsRun, RunsAreSerial}
use Rattle.world.proofs.Machinery.{fits_list}
use Rattle.protocol.specs.Client.{IsQuiet}
use Rattle.protocol.proofs.StatementCourse.{opening_quiet}
use Rattle.protocol.specs.Catalogues.{IsSerialList, ListLaw}
use Rattle.protocol.specs.Local.{local}
use Rattle.protocol.specs.Serial.{AllExplained}
use Rattle.desk.specs.Database.{Database, statements}
use Rattle.world.proofs.Heard.{serial_run}
use Rattle.world.proofs.DatabasePlaces.{content_none, content_there}

pub placed : (c : Catalogue) (n : ℕ) (whole : Relations) → IsFormed c → FitsSchema (schemas_of c) whole → IsPlaced (database c) n c whole
placed c n whole formed fits = record {
  sites = refl;
  places = λ place is. is.there;
  fits = fits;
  has = λ name leaf site there is. content_there c site name whole leaf there is;
  nowhere = λ place none. content_none c place.0 place.1 whole none;
}

pub opens_so : (c : Catalogue) (whole : Relations) (machines : Machines) → IsFormed c → FitsSchema (schemas_of c) whole → (IsPlaced (database c) machines.table.version c whole → Opens (database c) whole machines) → Opens (database c) whole machines
opens_so c whole machines formed fits starts = starts (placed c machines.table.version whole formed fits)

pub opens_run : (c : Catalogue) (whole : Relations) (machines : Machines) → IsFormed c → FitsSchema (schemas_of c) whole → (IsPlaced (database c) machines.table.version c whole → Opens (database c) whole machines) → IsRun (database c) whole machines [] []
opens_run c whole machines formed fits starts =
    let opens = opens_so c whole machines formed fits starts in
    record { version = machines.table.version; opening = world_of (database c) machines [] []; opens = opens.opening; events = []; are = tt; is = refl; placed = tt; explained = tt; tells = record { phased = refl; stated = tt; heard = refl }; fit = fits_list (database c) machines opens.fit }

pub opens_quiet : (c : Catalogue) (whole : Relations) (machines : Machines) → IsFormed c → FitsSchema (schemas_of c) whole → (IsPlaced (database c) machines.table.version c whole → Opens (database c) whole machines) → IsQuiet (world_of (database c) machines [] [])
opens_quiet c whole machines formed fits starts = opening_quiet (machines.table.version, whole) (world_of (database c) machines [] []) (starts (placed c machines.table.version whole formed fits)).opening

pub runs_serial : (db : Database) → ListLaw local (statements db) → RunsAreSerial db
runs_serial db law whole machines entries past run =
    serial_run db whole machines entries past run.tells (subst (IsSerialList local (statements db) whole) run.is (law run.version whole run.opening run.events run.opens (subst (λ v. AllExplained v.past) (sym run.is) run.explained)))
