use Rattle.std.proofs.Common.{◌≡◌, map, take}
use Rattle.lines.specs.RunScript.{part_of}
use Rattle.runs.proofs.conversations.seats.Given as goal

abbrev pub invariant-loop-part : goal.invariant-loop-part
invariant-loop-part g l = map (λ seat. part_of seat.part.now) l.seats.items ≡ map part_of (take l.part-index l.parts)
