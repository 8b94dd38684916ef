-- What `before_waiting` counts down.
use Rattle.std.proofs.Common.{length}
use Rattle.desk.proofs.fetches.+before_waiting.Given as goal

abbrev pub decreases-before_waiting : goal.decreases-before_waiting
decreases-before_waiting l = length l.asks.now
