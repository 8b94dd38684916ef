-- What `before_going` counts down.
use Rattle.std.proofs.Common.{length}
use Rattle.desk.proofs.send.+before_going.Given as goal

abbrev pub decreases-before_going : goal.decreases-before_going
decreases-before_going l = length l.asks.now
