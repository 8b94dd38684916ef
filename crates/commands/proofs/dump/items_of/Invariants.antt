use Rattle.std.proofs.Common.{◌≡◌, map, take}
use Rattle.lines.specs.Script.{DumpsRelation, task_of}
use Rattle.commands.proofs.dump.items_of.Given as goal

abbrev pub invariant-loop-name : goal.invariant-loop-name
invariant-loop-name l = map task_of l.items.items ≡ map DumpsRelation (take l.name-index l.names)
