-- The entries grow fewer.
use Rattle.std.proofs.Common.{length}
use Rattle.world.proofs.log.+letter_among.Given as goal

abbrev pub decreases-letter_among : goal.decreases-letter_among
decreases-letter_among l = length l.entries.now
