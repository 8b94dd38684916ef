-- What each round of `vote::votes_of` keeps.
use Rattle.std.proofs.Common.{take}
use Rattle.sqlstore.specs.Votes.{AreVotes}
use Rattle.sqlstore.proofs.vote.votes_of.Given as goal

-- there is a vote for each voter so far
abbrev pub invariant-loop-voter : goal.invariant-loop-voter
invariant-loop-voter l = AreVotes l.votes.items (take l.voter-index l.voters)
