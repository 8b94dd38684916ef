-- What `put_rows` counts down.
use Rattle.std.proofs.Common.{length}
use Rattle.desk.proofs.fetches.+put_rows.Given as goal

abbrev pub decreases-put_rows : goal.decreases-put_rows
decreases-put_rows l = length l.asks.now
