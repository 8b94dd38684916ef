-- What `are_in_with` counts down.
use Rattle.std.proofs.Common.{length}
use Rattle.desk.proofs.fetches.+are_in_with.Given as goal

abbrev pub decreases-are_in_with : goal.decreases-are_in_with
decreases-are_in_with l = length l.asks.now
