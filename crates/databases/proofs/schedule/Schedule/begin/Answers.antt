use Rattle.std.proofs.Common.{◌≡◌}
use Rattle.databases.proofs.ReachedLemmas.{same_world}
use Rattle.databases.proofs.schedule.Schedule.begin.Goals as goal
use Rattle.databases.proofs.schedule.Schedule.begin.Goals.{in-Some+in_ok-name_first-in-Ok-None, in_default}

pub returns-after-last_out-clause-leaves : goal.returns-after-last_out-clause-leaves
returns-after-last_out-clause-leaves g c =
    let same : c.match-last_out.self.world ≡ c.step.new.self.world = elim c.match-last_out.branch [
      | in-Some+in_ok-name_first-in-Ok-None w ↦ same_world _ _ w.self-is
      | in_default w ↦ same_world _ _ w.self-is
    ] in
    rw same c.in-Ok-None.ensures.leaves
