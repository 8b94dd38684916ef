-- Why `on_unknown` meets its contract.
use Rattle.std.proofs.Common.{None}
use Rattle.desk.proofs.receive.on_unknown.Goals as goal

pub returns-in-Rows-clause-turn : goal.returns-in-Rows-clause-turn
returns-in-Rows-clause-turn c = λ db. rw c.in-Rows.is (c.stays.ensures.turn db c.args.txn None)

pub returns-in-Refused-clause-turn : goal.returns-in-Refused-clause-turn
returns-in-Refused-clause-turn c = λ db. rw c.in-Refused.is (c.stays-in-Refused.ensures.turn db c.args.txn None)

pub returns-in-Voted-clause-turn : goal.returns-in-Voted-clause-turn
returns-in-Voted-clause-turn c = λ db. rw c.in-Voted.is (c.stays-in-Voted.ensures.turn db c.args.txn None)

pub returns-in-Ack-clause-turn : goal.returns-in-Ack-clause-turn
returns-in-Ack-clause-turn c = λ db. rw c.in-Ack.is (c.stays-in-Ack.ensures.turn db c.args.txn None)
