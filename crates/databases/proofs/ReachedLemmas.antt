-- Lemmas on the run that a schedule carries.
use Rattle.std.proofs.Common.{◌≡◌, ◌++◌, ℕ, List, Result, Ok, Err, ap, map, refl, sym, subst}
use Rattle.meaning.specs.Whole.{Relations}
use Rattle.catalog.specs.Relation.{catalogue_of}
use Rattle.store.specs.DeskContent.{DeskContent}
use Rattle.store.specs.SiteContent.{SiteContent}
use Rattle.world.specs.declared.event.Entry.{Entry}
use Rattle.world.specs.declared.event.Event.{Event}
use Rattle.world.specs.declared.fault.Fault.{Fault}
use Rattle.world.specs.declared.world.World.{World}
use Rattle.desk.specs.Database.{Database}
use Rattle.world.specs.Contents.{OfStores, counted, held}
use Rattle.world.specs.Frame.{LeavesMachines, StaysAsItIs, StaysInForce}
use Rattle.world.specs.Machines.{Machines}
use Rattle.world.specs.Steps.{Steps}
use Rattle.world.proofs.Leaves.{ends_alike, ends_follow, ends_map, ends_same, ends_then}
use Rattle.databases.specs.declared.schedule.Schedule.{Schedule}
use Rattle.databases.specs.Schedule.{HasRun, IsReached, LeavesWorld, SeenWorld, world_over}

-- the same schedule has the same world
pub same_world : {D S : Type 0} (old new : Schedule D S) → new ≡ old → new.world ≡ old.world
same_world {D = D} {S = S} old new same = ap (λ (schedule : Schedule D S). schedule.world) same

-- a world that stays as it is
pub leaves_same : {W : Type 0} (seen : SeenWorld W) (world : W) → LeavesWorld seen world world
leaves_same seen world = record { clean = λ clean. clean; runs = λ db whole clean has. has; catalogs = ends_same refl }

-- two calls, one after the other
pub leaves_then : {W : Type 0} (seen : SeenWorld W) (old middle new : W) → LeavesWorld seen old middle → LeavesWorld seen middle new → LeavesWorld seen old new
leaves_then seen old middle new first next = record {
  clean = λ clean. first.clean (next.clean clean);
  runs = λ db whole clean has. next.runs db whole clean (first.runs db whole (next.clean clean) has);
  catalogs = ends_then first.catalogs next.catalogs;
}

module _ {D S : Type 0} (desk_is_clean : D → Type 0) (site_is_clean : S → Type 0) (desk_is_sound : D → Type 0) (site_is_sound : S → Type 0) (of_desk : D → DeskContent) (of_site : S → SiteContent) (desk_refused : D → ℕ) (site_refused : S → ℕ) where
  abbrev seen : SeenWorld (World D S)
  seen = world_over desk_is_clean site_is_clean desk_is_sound site_is_sound of_desk of_site desk_refused site_refused

  -- the catalogue of the number is in force still
  stands_still : (db : Database) (old new : World D S) → StaysInForce old.machines new.machines → seen.stands db old → seen.stands db new
  stands_still db old new same stands = record {
    here = rw (same.version, same.catalog) stands.here;
    next = rw (same.version, same.later) stands.next;
  }

  -- nothing has happened
  stays : (db : Database) (whole : Relations) (old new : World D S) → StaysInForce old.machines new.machines → seen.is_sound new → seen.machines new ≡ seen.machines old → seen.entries new ≡ seen.entries old → HasRun seen db whole old → HasRun seen db whole new
  stays db whole old new same sound machines entries has = record {
    listed = has.listed;
    sound = sound;
    stands = stands_still db old new same has.stands;
    reached = subst (λ (machines : Machines). IsReached db whole machines (seen.entries new)) (sym machines)
        (subst (λ (entries : List Entry). IsReached db whole (seen.machines old) entries) (sym entries) has.reached);
  }

  -- an event of a world, by what is answered
  abbrev StepsTo : Event → Result Entry Fault → World D S → World D S → Type 0
  StepsTo what answer old new = Steps (OfStores desk_is_clean site_is_clean) (OfStores desk_is_sound site_is_sound) (held of_desk of_site) (counted of_desk of_site desk_refused site_refused) what answer old new

  runs_on : (what : Event) (answer : Result Entry Fault) (old new : World D S) → StepsTo what answer old new → (db : Database) (whole : Relations) → seen.is_clean new → HasRun seen db whole old → HasRun seen db whole new
  runs_on what (Ok entry) old new stepped db whole clean has =
      let on = stepped.goes_on db whole has.reached.0 has.listed has.stands clean has.sound has.reached.1 in
      record { listed = has.listed; sound = stepped.sound clean has.sound; stands = on.1; reached = (has.reached.0 ++ on.0.0.deeds, on.0.0.run_on) }
  runs_on what (Err told) old new stepped db whole clean has = stays db whole old new stepped.stays (stepped.sound clean has.sound) (stepped.err clean has.sound) stepped.same has

  pub steps_leave : (what : Event) (answer : Result Entry Fault) (old new : World D S) → StepsTo what answer old new → LeavesWorld seen old new
  steps_leave what answer old new stepped = record { clean = stepped.clean; runs = runs_on what answer old new stepped; catalogs = ends_map catalogue_of (ends_follow old.machines new.machines stepped.follows) }

  -- what is kept is looked at
  pub looks_leave : (old new : World D S) → LeavesMachines desk_is_clean site_is_clean desk_is_sound site_is_sound desk_refused site_refused old.machines new.machines →
      StaysAsItIs (OfStores desk_is_clean site_is_clean) (OfStores desk_is_sound site_is_sound) (held of_desk of_site) old.machines new.machines → new.entries.items ≡ old.entries.items → LeavesWorld seen old new
  looks_leave old new leaves same entries = record {
    clean = leaves.clean;
    runs = λ db whole clean has.
        let as_is = same clean has.sound in
        let in_force : StaysInForce old.machines new.machines = record { version = ap (λ (machines : Machines). machines.table.version) as_is; catalog = leaves.catalog; later = leaves.later } in
        stays db whole old new in_force (leaves.sound clean has.sound) as_is entries has;
    catalogs = ends_alike (ap catalogue_of leaves.catalog) (ap (map catalogue_of) leaves.later);
  }
