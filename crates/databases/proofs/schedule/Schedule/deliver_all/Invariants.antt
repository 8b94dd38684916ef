use Rattle.std.proofs.Common.{◌≡◌, ℕ, List, drop, length, string_bytes}
use Rattle.databases.specs.Delivering.{DeliversEach, first_due, first_due_from}
use Rattle.databases.specs.Schedule.{IsCounted, LeavesWorld, stage_of, world_over}
use Rattle.databases.proofs.schedule.Schedule.deliver_all.Given as goal

-- so many letters went, and what is due is what is due from here on
abbrev pub invariant-loop : goal.invariant-loop
invariant-loop g l = record {
  went : (places : List ℕ) × (DeliversEach l.but places (stage_of l.initial.self) (stage_of l.self) (string_bytes l.text)) × (length places ≡ l.counter);
  due : first_due l.but (stage_of l.self) ≡ first_due_from l.from l.but (drop l.from l.self.came.items);
  counted : IsCounted (stage_of l.self);
  leaves : LeavesWorld (world_over g.D.DeskStore.is_clean g.S.SiteStore.is_clean g.D.DeskStore.is_sound g.S.SiteStore.is_sound g.D.DeskStore.kept g.S.SiteStore.kept g.D.DeskStore.refused g.S.SiteStore.refused) l.initial.self.world l.self.world;
}
