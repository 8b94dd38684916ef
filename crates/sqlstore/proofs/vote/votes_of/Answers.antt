use Rattle.sqlstore.proofs.Voting.{votes_more}
use Rattle.sqlstore.proofs.vote.votes_of.Goals as goal

pub loop-voter-preserved : goal.loop-voter-preserved
loop-voter-preserved c =
    let said = rw c.in-Some.is at c.in_ok-vote.ensures in
    votes_more c.loop-voter.votes.items c.push.new.self.items c.args.voters.now c.loop-voter.voter-index c.in-Some.vote c.voter-item.result c.loop-voter-test.true c.voter-item.is c.in_ok-push.ensures.items said.0 said.1 c.loop-voter.invariant
