use Rattle.std.proofs.Common.{map, take}
use Rattle.lines.specs.Script.{task_of}
use Rattle.databases.specs.Solo.{Stretches}
use Rattle.databases.proofs.solo.run_items.Given as goal

abbrev pub invariant-loop-item : goal.invariant-loop-item
invariant-loop-item g l = (g.B.Database.seen.is_clean l.database → g.B.Database.seen.is_clean l.initial.database)
    × Stretches g.B.Database.seen l.mode (map task_of (take l.item-index l.items)) (g.W.Write.contents l.initial.output) (g.W.Write.contents l.output) l.initial.database l.database l.any_refused
