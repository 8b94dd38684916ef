-- Why `call_commit` meets its contract.
use Rattle.std.proofs.Common.{◌∙◌}
use Rattle.protocol.specs.Desk.{Commit_call}
use Rattle.protocol.specs.Letters.{txn_name}
use Rattle.desk.specs.Transaction.{txn_of}
use Rattle.desk.specs.State.{volatile_of}
use Rattle.desk.proofs.Limits.{short_called}
use Rattle.desk.proofs.Making.{asks}
use Rattle.desk.proofs.request.call_commit.Goals as goal

pub returns-clause-ok : goal.returns-clause-ok
returns-clause-ok c = λ db choice kept distinct fits.
    asks db kept c.args.volatile.now c.make.ensures.ordered fits distinct c.args.txn choice Commit_call c.in_ok-turn.turn
    (λ at. c.in_ok-turn.ensures.turn db choice at) (λ at. c.in_ok-turn.ensures.leaves.sites db at) c.in_ok-turn.ensures.leaves.keeps c.in_ok-turn.ensures.leaves.quiet
    (short_called (txn_name c.args.txn) choice (txn_of db ((volatile_of c.args.volatile.now).standing c.args.txn))) c.in_ok-turn.ensures.leaves.stands
    (volatile_of c.make.new.volatile) (record { moved = c.make.ensures.settled; still = c.make.ensures.still })
    c.make.result.letters c.make.result.replies c.make.ensures.letters (c.make.ensures.replies c.in_ok-room.ensures.empty)

pub returns-clause-steps : goal.returns-clause-steps
returns-clause-steps c = record { kept = c.make.ensures.kept ∙ c.in_ok-turn.ensures.leaves.kept; err = tt }
