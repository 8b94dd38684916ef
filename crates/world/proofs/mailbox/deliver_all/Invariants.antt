-- What each round keeps.
use Rattle.std.proofs.Common.{◌-◌, List}
use Rattle.meaning.specs.Whole.{Relations}
use Rattle.protocol.specs.Desk.{Deed}
use Rattle.protocol.specs.Rounds.{RanksUnder}
use Rattle.desk.specs.Database.{Database, language}
use Rattle.desk.specs.OfCatalogue.{InForce, IsOfCatalogue}
use Rattle.world.specs.Counted.{NoFewer, counts}
use Rattle.world.specs.Frame.{KeepsCatalogs}
use Rattle.world.specs.Mailbox.{Goes, ListComes}
use Rattle.world.specs.Contents.{OfStores, counted, held}
use Rattle.world.specs.Listed.{FitsList, IsListed, StandsIn}
use Rattle.world.specs.ListServed.{IsListWaiting, ListGoes}
use Rattle.world.specs.Machines.{AreFit}
use Rattle.world.specs.Taking.{put_out_by, scene, world_at}
use Rattle.world.proofs.mailbox.deliver_all.Given as goal

abbrev pub invariant-loop : goal.invariant-loop
invariant-loop g l = record {
  clean : OfStores g.D.DeskStore.is_clean g.S.SiteStore.is_clean l.machines → OfStores g.D.DeskStore.is_clean g.S.SiteStore.is_clean l.fn.machines;
  sound : OfStores g.D.DeskStore.is_clean g.S.SiteStore.is_clean l.machines → OfStores g.D.DeskStore.is_sound g.S.SiteStore.is_sound l.fn.machines → OfStores g.D.DeskStore.is_sound g.S.SiteStore.is_sound l.machines;
  catalogs : KeepsCatalogs (λ machines. machines.desk.later.items) l.fn.machines l.machines;
  counts : NoFewer (counts g.D.DeskStore.refused g.S.SiteStore.refused l.fn.machines) (counts g.D.DeskStore.refused g.S.SiteStore.refused l.machines);
  goes : (db : Database) → IsOfCatalogue db → InForce db l.fn.machines.desk.volatile.version l.fn.machines.desk.catalog → OfStores g.D.DeskStore.is_clean g.S.SiteStore.is_clean l.machines → OfStores g.D.DeskStore.is_sound g.S.SiteStore.is_sound l.fn.machines
      → AreFit db (counted g.D.DeskStore.kept g.S.SiteStore.kept g.D.DeskStore.refused g.S.SiteStore.refused l.fn.machines) → Goes db (λ w. w) (put_out_by (counted g.D.DeskStore.kept g.S.SiteStore.kept g.D.DeskStore.refused g.S.SiteStore.refused l.fn.machines) l.fn.out) (scene (counted g.D.DeskStore.kept g.S.SiteStore.kept g.D.DeskStore.refused g.S.SiteStore.refused l.machines) l.post);
  ranks : (db : Database) → IsOfCatalogue db → InForce db l.fn.machines.desk.volatile.version l.fn.machines.desk.catalog → OfStores g.D.DeskStore.is_clean g.S.SiteStore.is_clean l.machines → OfStores g.D.DeskStore.is_sound g.S.SiteStore.is_sound l.fn.machines
      → AreFit db (counted g.D.DeskStore.kept g.S.SiteStore.kept g.D.DeskStore.refused g.S.SiteStore.refused l.fn.machines) → RanksUnder (9 - l.counter) (world_at db (scene (counted g.D.DeskStore.kept g.S.SiteStore.kept g.D.DeskStore.refused g.S.SiteStore.refused l.machines) l.post));
  comes : (db : Database) → IsListed db → StandsIn db l.fn.machines.desk → OfStores g.D.DeskStore.is_clean g.S.SiteStore.is_clean l.machines → OfStores g.D.DeskStore.is_sound g.S.SiteStore.is_sound l.fn.machines → FitsList db (held g.D.DeskStore.kept g.S.SiteStore.kept l.fn.machines)
      → ListComes db (put_out_by (held g.D.DeskStore.kept g.S.SiteStore.kept l.fn.machines) l.fn.out) (scene (held g.D.DeskStore.kept g.S.SiteStore.kept l.machines) l.post) × StandsIn db l.machines.desk;
  ranks_lists : (db : Database) → IsListed db → StandsIn db l.fn.machines.desk → OfStores g.D.DeskStore.is_clean g.S.SiteStore.is_clean l.machines → OfStores g.D.DeskStore.is_sound g.S.SiteStore.is_sound l.fn.machines → FitsList db (held g.D.DeskStore.kept g.S.SiteStore.kept l.fn.machines)
      → RanksUnder (9 - l.counter) (world_at db (scene (held g.D.DeskStore.kept g.S.SiteStore.kept l.machines) l.post));
  lists : (db : Database) (whole : Relations) (past : List (Deed (language db))) → IsListed db → StandsIn db l.fn.machines.desk → OfStores g.D.DeskStore.is_clean g.S.SiteStore.is_clean l.machines → OfStores g.D.DeskStore.is_sound g.S.SiteStore.is_sound l.fn.machines
      → IsListWaiting db whole (held g.D.DeskStore.kept g.S.SiteStore.kept l.fn.machines) l.fn.out.letters past → ListGoes db whole (held g.D.DeskStore.kept g.S.SiteStore.kept l.machines) l.post.waiting.items past l.fn.out.replies l.post.heard.items × StandsIn db l.machines.desk;
}
