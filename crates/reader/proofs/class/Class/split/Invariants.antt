-- What each round of `class::Class::split` keeps.
use Rattle.std.proofs.Common.{length, ◌-◌, ◌≡◌, ◌≤◌, ◌<◌, ℕ, true, get_or}
use Rattle.reader.specs.Class.{is_in}
use Rattle.reader.proofs.class.Class.split.Given as goal

-- each byte before the place is of the class
abbrev pub invariant-loop-end : goal.invariant-loop-end
invariant-loop-end l = (l.end ≤ length l.bytes) × ((k : ℕ) → k < l.end → is_in l.self (get_or l.bytes k 0) ≡ true)

abbrev pub decreases-loop-end : goal.decreases-loop-end
decreases-loop-end l = length l.bytes - l.end
