-- What each round of `World::run` keeps.
use Rattle.std.proofs.Common.{◌≡◌, List, take}
use Rattle.meaning.specs.Whole.{Relations}
use Rattle.protocol.specs.Desk.{Deed}
use Rattle.desk.specs.Database.{Database, language}
use Rattle.world.specs.Following.{Follows}
use Rattle.world.specs.Frame.{LeavesDatabase}
use Rattle.world.specs.Contents.{OfStores, counted, held}
use Rattle.world.specs.Listed.{IsListed, StandsIn}
use Rattle.world.specs.Runs.{IsRun, RunsOn}
use Rattle.world.proofs.world.World.run.Given as goal

-- the events so far have happened, or were refused
abbrev pub invariant-loop-event : goal.invariant-loop-event
invariant-loop-event g l =
    let D = g.D.DeskStore in
    let S = g.S.SiteStore in
    LeavesDatabase D.is_clean S.is_clean D.is_sound S.is_sound D.refused S.refused l.fn.self.machines l.self.machines
    × (l.done ≡ l.event-index)
    × ((list : Database) (whole : Relations) (past : List (Deed (language list))) → IsListed list → StandsIn list l.fn.self.machines.desk → OfStores D.is_clean S.is_clean l.self.machines → OfStores D.is_sound S.is_sound l.fn.self.machines → IsRun list whole (held D.kept S.kept l.fn.self.machines) l.fn.self.entries.items past →
    RunsOn list whole (held D.kept S.kept l.self.machines) l.self.entries.items past × StandsIn list l.self.machines.desk × Follows list (take l.event-index l.events) (counted D.kept S.kept D.refused S.refused l.fn.self.machines) l.fn.self.entries.items (counted D.kept S.kept D.refused S.refused l.self.machines) l.self.entries.items)
