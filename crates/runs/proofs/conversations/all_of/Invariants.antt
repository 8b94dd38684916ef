-- Those that were looked at were held to their ends.
use Rattle.std.proofs.Common.{◌≡◌, Ok, map}
use Rattle.runs.proofs.conversations.all_of.Given as goal

abbrev pub invariant-loop-one : goal.invariant-loop-one
invariant-loop-one l = l.yielded ≡ map Ok l.all.items
