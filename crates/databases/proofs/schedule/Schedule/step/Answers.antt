use Rattle.std.specs.Result.{result_copied}
use Rattle.databases.proofs.ReachedLemmas.{steps_leave}
use Rattle.databases.proofs.schedule.Schedule.step.Goals as goal

pub returns-in_ok-add_sent-in-Ok-clause-leaves : goal.returns-in_ok-add_sent-in-Ok-clause-leaves
returns-in_ok-add_sent-in-Ok-clause-leaves g c = steps_leave g.D.DeskStore.is_clean g.S.SiteStore.is_clean g.D.DeskStore.is_sound g.S.SiteStore.is_sound g.D.DeskStore.kept g.S.SiteStore.kept g.D.DeskStore.refused g.S.SiteStore.refused c.args.event (result_copied c.step.result) c.args.self.now.world c.step.follows.lender-at-none c.step.follows.holds-at-none

pub returns-in_err-add_sent-in-Ok-clause-leaves : goal.returns-in_err-add_sent-in-Ok-clause-leaves
returns-in_err-add_sent-in-Ok-clause-leaves g c = steps_leave g.D.DeskStore.is_clean g.S.SiteStore.is_clean g.D.DeskStore.is_sound g.S.SiteStore.is_sound g.D.DeskStore.kept g.S.SiteStore.kept g.D.DeskStore.refused g.S.SiteStore.refused c.args.event (result_copied c.step.result) c.args.self.now.world c.step.follows.lender-at-none c.step.follows.holds-at-none

pub returns-in-Err-clause-leaves : goal.returns-in-Err-clause-leaves
returns-in-Err-clause-leaves g c = steps_leave g.D.DeskStore.is_clean g.S.SiteStore.is_clean g.D.DeskStore.is_sound g.S.SiteStore.is_sound g.D.DeskStore.kept g.S.SiteStore.kept g.D.DeskStore.refused g.S.SiteStore.refused c.args.event (result_copied c.step.result) c.args.self.now.world c.step.follows.lender-at-none c.step.follows.holds-at-none

pub returns-in-Err-Desk-Memory-clause-leaves : goal.returns-in-Err-Desk-Memory-clause-leaves
returns-in-Err-Desk-Memory-clause-leaves g c = steps_leave g.D.DeskStore.is_clean g.S.SiteStore.is_clean g.D.DeskStore.is_sound g.S.SiteStore.is_sound g.D.DeskStore.kept g.S.SiteStore.kept g.D.DeskStore.refused g.S.SiteStore.refused c.args.event (result_copied c.step.result) c.args.self.now.world c.step.follows.lender-at-none c.step.follows.holds-at-none

pub returns-in-Err-Site-Memory-clause-leaves : goal.returns-in-Err-Site-Memory-clause-leaves
returns-in-Err-Site-Memory-clause-leaves g c = steps_leave g.D.DeskStore.is_clean g.S.SiteStore.is_clean g.D.DeskStore.is_sound g.S.SiteStore.is_sound g.D.DeskStore.kept g.S.SiteStore.kept g.D.DeskStore.refused g.S.SiteStore.refused c.args.event (result_copied c.step.result) c.args.self.now.world c.step.follows.lender-at-none c.step.follows.holds-at-none
