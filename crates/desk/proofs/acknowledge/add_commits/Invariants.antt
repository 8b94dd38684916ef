-- What each round of `voters::add_commits` keeps.
use Rattle.std.proofs.Common.{◌≡◌, ◌++◌, drop}
use Rattle.desk.specs.Acknowledge.{commit_letters}
use Rattle.desk.proofs.acknowledge.add_commits.Given as goal

-- the letters so far, and those to the rest, are those before and all
abbrev pub invariant-loop-voter : goal.invariant-loop-voter
invariant-loop-voter l = l.letters.items ++ commit_letters l.txn (drop l.voter-index l.voters) ≡ l.initial.letters.items ++ commit_letters l.txn l.voters
