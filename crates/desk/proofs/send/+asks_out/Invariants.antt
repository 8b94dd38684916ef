-- What `asks_out` counts down.
use Rattle.std.proofs.Common.{length}
use Rattle.desk.proofs.send.+asks_out.Given as goal

abbrev pub decreases-asks_out : goal.decreases-asks_out
decreases-asks_out l = length l.asks.now
