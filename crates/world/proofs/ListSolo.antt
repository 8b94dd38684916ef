-- One client's database over a list of catalogues: how it opens, and what its fragments rebuild.
use Rattle.std.proofs.Common.{◌≡◌, ◌++◌, refl, sym, subst, ℕ, List, [], map}
use Rattle.std.specs.List.{flat_map}
use Rattle.std.proofs.lemmas.List.{append-nil}
use Rattle.meaning.specs.Whole.{FitsSchema, Relations}
use Rattle.reader.specs.Printable.{AreDistinct}
use Rattle.store.specs.declared.letter.Letter as letters
use Rattle.protocol.specs.Client.{IsReached}
use Rattle.protocol.specs.Desk.{Deed}
use Rattle.protocol.specs.Letters.{letter_of}
use Rattle.protocol.specs.Local.{local}
use Rattle.protocol.specs.Recovery.{RecoveryLaw}
use Rattle.protocol.specs.Serial.{committed}
use Rattle.protocol.proofs.ListLaw.{list_lawful, serial_whole_is}
use Rattle.protocol.proofs.Recovering.{recovery_law}
use Rattle.protocol.specs.Site.{inquiries}
use Rattle.protocol.specs.World.{desk_restarts}
use Rattle.site.specs.State.{state_of}
use Rattle.desk.specs.declared.reply.Notice.{Notice}
use Rattle.desk.specs.Database.{Database, language, statements}
use Rattle.world.specs.Listed.{FitsList, IsListed, ListLeads}
use Rattle.world.specs.ListServed.{IsListServed, IsListServedOn, IsListWaiting, ListGoes}
use Rattle.world.specs.Machines.{Machines, world_of}
use Rattle.world.specs.Settled.{AreThoseOf, after_committed}
use Rattle.world.specs.Placed.{ListOpens}
use Rattle.world.specs.Recovery.{ListGoesOnFrom}
use Rattle.world.proofs.Counting.{with_counts}
use Rattle.world.proofs.ListCalls.{served_with}
use Rattle.world.proofs.ListDelivering.{list_reached, list_served_serial}
use Rattle.world.proofs.Recovers.{all_asked}

-- machines that open are served, and nothing has happened
pub opens_served : (db : Database) (whole : Relations) (machines : Machines) → ListOpens db whole machines → IsListServed db whole machines []
opens_served db whole machines opens = record { version = machines.table.version; reached = record { opening = world_of db machines [] []; opens = opens.opening; events = []; gone = []; is = refl; explained = tt }; fit = opens.fit }

-- so they are where nothing more happens
pub served_still : (db : Database) (whole : Relations) (machines : Machines) (past : List (Deed (language db))) → IsListServed db whole machines past → IsListServedOn db whole machines past
served_still db whole machines past served = record { deeds = []; served = subst (IsListServed db whole machines) (sym (append-nil past)) served }

-- how often media have refused doesn't matter to what fits
pub fits_without : (db : Database) (machines : Machines) (counts : List ℕ) → FitsList db (with_counts machines counts) → FitsList db machines
fits_without db machines counts fit = record { names = fit.names; leaves = fit.leaves; desk = fit.desk; within = fit.within; sites = fit.sites; still = fit.still }

module _ (db : Database) (listed : IsListed db) (whole : Relations) (machines : Machines) (past : List (Deed (language db))) (served : IsListServed db whole machines past) where
  abbrev opened : (language db).Whole
  opened = (served.version, whole)

  -- the committed transactions make whole relations
  pub list_served_fits : FitsSchema db.schemas (after_committed db past whole)
  list_served_fits = subst (FitsSchema db.schemas) (serial_whole_is local (statements db) past (committed past) opened) ((list_reached db listed).is_whole opened (world_of db machines [] past) served.reached)

  -- and the settled fragments are those
  pub list_served_rebuilds : AreThoseOf db machines (after_committed db past whole)
  list_served_rebuilds = (list_served_serial db listed whole machines past served).rebuilt

-- ---- machines that come up recover
pub list_recovery : (db : Database) → IsListed db → RecoveryLaw (language db)
list_recovery db listed = recovery_law (list_lawful local (statements db) listed.lawful)

module _ (db : Database) (whole : Relations) where
  -- how often media have refused doesn't matter
  pub on_with : (machines : Machines) (counts : List ℕ) (past : List (Deed (language db))) → IsListServedOn db whole machines past → IsListServedOn db whole (with_counts machines counts) past
  on_with machines counts past on = record { deeds = on.deeds; served = served_with db whole machines counts (past ++ on.deeds) on.served }

  pub recovers_with : (past : List (Deed (language db))) (machines : Machines) (counts : List ℕ) → ListGoesOnFrom db whole past machines → ListGoesOnFrom db whole past (with_counts machines counts)
  recovers_with past machines counts goes = record {
    more = goes.more;
    served = served_with db whole machines counts (past ++ goes.more) goes.served;
    quiet = goes.quiet;
    unvisited = goes.unvisited;
    unstated = goes.unstated;
    uncommitted = goes.uncommitted;
  }

  pub goes_on : (machines : Machines) (past : List (Deed (language db))) (was now : List Notice) → ListGoes db whole machines [] past was now → IsListServedOn db whole machines past
  goes_on machines past was now goes = record { deeds = goes.deeds; served = goes.served }

  module _ (listed : IsListed db) where
    -- the coordinator restarts
    pub restarted_waits : (before mid : Machines) (out : List letters.Letter) (notices : List Notice) (past : List (Deed (language db))) → IsListServed db whole before past → (leads : ListLeads db desk_restarts before mid out notices) → IsListWaiting db whole mid out (past ++ leads.deeds)
    restarted_waits before mid out notices past served leads =
        let opened : (language db).Whole = (served.version, whole) in
        record { version = served.version; reached = subst (IsReached opened) (leads.is [] past) ((list_reached db listed).desk_restarted opened (world_of db before [] past) served.reached); fit = leads.fit }

    -- each site asks about its prepared rows, behind what the coordinator sends again
    pub inquired_waits : (distinct : AreDistinct db.sites) (mid : Machines) (commits asked : List letters.Letter) (past : List (Deed (language db))) → map letter_of asked ≡ map letter_of commits ++ flat_map (λ seat. inquiries seat.name (state_of seat.kept seat.table)) mid.seats →
        IsListWaiting db whole mid commits past → IsListWaiting db whole mid asked past
    inquired_waits distinct mid commits asked past more waits =
        let opened : (language db).Whole = (waits.version, whole) in
        record { version = waits.version; reached = all_asked db (list_reached db listed) opened distinct mid past commits asked waits.fit.names more waits.reached; fit = waits.fit }
