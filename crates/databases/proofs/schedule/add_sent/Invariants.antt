use Rattle.std.proofs.Common.{◌≡◌, ◌++◌, take}
use Rattle.databases.specs.Schedule.{unseen}
use Rattle.databases.proofs.schedule.add_sent.Given as goal

abbrev pub invariant-loop-letter : goal.invariant-loop-letter
invariant-loop-letter l = l.came.items ≡ l.initial.came.items ++ unseen (take l._letter-index l.letters)
