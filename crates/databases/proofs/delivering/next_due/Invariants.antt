use Rattle.std.proofs.Common.{◌≡◌, drop}
use Rattle.databases.specs.Delivering.{first_due_from}
use Rattle.databases.proofs.delivering.next_due.Given as goal

-- what is due from here on is what is due from the beginning on
abbrev pub invariant-loop-place : goal.invariant-loop-place
invariant-loop-place l = first_due_from l.place l.but (drop l.place l.came) ≡ first_due_from l.from l.but (drop l.from l.came)
