-- What each round of `committed_in` keeps.
use Rattle.std.proofs.Common.{◌≡◌, ◌++◌, drop, map, filter}
use Rattle.world.specs.Committed.{committed_of}
use Rattle.world.specs.Replies.{committed_in, is_told_committed, phased_in}
use Rattle.world.proofs.committed.committed_in.Given as goal

-- the transactions so far, and those of the rest
abbrev pub invariant-loop-entry : goal.invariant-loop-entry
invariant-loop-entry l = l.all.items ++ map (committed_of l.entries) (filter (is_told_committed l.entries) (phased_in (drop l.entry-index l.entries))) ≡ map (committed_of l.entries) (committed_in l.entries)
