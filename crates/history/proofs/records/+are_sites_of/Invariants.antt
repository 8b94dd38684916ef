-- The names that are left grow fewer.
use Rattle.std.proofs.Common.{length}
use Rattle.history.proofs.records.+are_sites_of.Given as goal

abbrev pub decreases-are_sites_of : goal.decreases-are_sites_of
decreases-are_sites_of g l = length l.names.now
