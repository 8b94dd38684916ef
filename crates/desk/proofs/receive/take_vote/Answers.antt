-- Why `take_vote` meets its contract.
use Rattle.std.proofs.Common.{rules}
use Rattle.desk.specs.State.{volatile_of}
use Rattle.desk.proofs.Early.{counts_early}
use Rattle.desk.proofs.receive.take_vote.Goals as goal

pub returns-clause-ok : goal.returns-clause-ok
returns-clause-ok c = λ db choice kept distinct fits.
    counts_early db kept c.args.volatile.now c.count.ensures.ordered fits distinct c.args.txn choice c.args.site.now c.args.voted c.requires (volatile_of c.count.new.self) (λ u here. c.count.ensures.counted u here) c.new-letters.result (search rules) _ _ (search rules) (search rules)
