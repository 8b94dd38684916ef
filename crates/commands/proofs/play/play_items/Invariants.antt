use Rattle.std.proofs.Common.{take}
use Rattle.commands.specs.Play.{PlaysItems}
use Rattle.databases.specs.Schedule.{IsCounted, LeavesWorld, stage_of, world_over}
use Rattle.commands.proofs.play.play_items.Given as goal

abbrev pub invariant-loop-placed : goal.invariant-loop-placed
invariant-loop-placed g l = record {
  played : PlaysItems (world_over g.D.DeskStore.is_clean g.S.SiteStore.is_clean g.D.DeskStore.is_sound g.S.SiteStore.is_sound g.D.DeskStore.kept g.S.SiteStore.kept g.D.DeskStore.refused g.S.SiteStore.refused) (take l.placed-index l.items) (g.W.Write.contents l.initial.output) (g.W.Write.contents l.output) l.initial.schedule l.schedule;
  counted : IsCounted (stage_of l.schedule);
  leaves : LeavesWorld (world_over g.D.DeskStore.is_clean g.S.SiteStore.is_clean g.D.DeskStore.is_sound g.S.SiteStore.is_sound g.D.DeskStore.kept g.S.SiteStore.kept g.D.DeskStore.refused g.S.SiteStore.refused) l.initial.schedule.world l.schedule.world;
}
