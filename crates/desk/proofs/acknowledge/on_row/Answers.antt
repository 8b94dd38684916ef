-- Why `on_row` meets its contract.
use Rattle.std.proofs.Common.{Some}
use Rattle.desk.specs.declared.transaction.TxnState.TheVariants as standing
use Rattle.desk.proofs.Called.{no_call}
use Rattle.desk.proofs.acknowledge.on_row.Goals as goal

pub returns-in-Ack-clause-turn : goal.returns-in-Ack-clause-turn
returns-in-Ack-clause-turn g c = λ db. rw c.in-Ack.is (c.on_ack.ensures.turn db)

pub returns-in-Inquire-clause-turn : goal.returns-in-Inquire-clause-turn
returns-in-Inquire-clause-turn g c = λ db. rw c.in-Inquire.is (c.tells.ensures.turn db (Some (standing.Committed c.args.committed.now)))

pub returns-in-Ticket-clause-turn : goal.returns-in-Ticket-clause-turn
returns-in-Ticket-clause-turn g c = λ db. rw c.in-Ticket.is (c.stays.ensures.turn db c.args.txn (Some (standing.Committed c.args.committed.now)))

pub returns-in-Rows-clause-turn : goal.returns-in-Rows-clause-turn
returns-in-Rows-clause-turn g c = λ db. rw c.in-Rows.is (c.stays-in-Rows.ensures.turn db c.args.txn (Some (standing.Committed c.args.committed.now)))

pub returns-in-Refused-clause-turn : goal.returns-in-Refused-clause-turn
returns-in-Refused-clause-turn g c = λ db. rw c.in-Refused.is (c.stays-in-Refused.ensures.turn db c.args.txn (Some (standing.Committed c.args.committed.now)))

pub returns-in-Voted-clause-turn : goal.returns-in-Voted-clause-turn
returns-in-Voted-clause-turn g c = λ db. rw c.in-Voted.is (c.stays-in-Voted.ensures.turn db c.args.txn (Some (standing.Committed c.args.committed.now)))

pub returns-in-Ack-clause-store : goal.returns-in-Ack-clause-store
returns-in-Ack-clause-store g c = rw c.in-Ack.is c.on_ack.ensures.store

pub returns-in-Inquire-clause-store : goal.returns-in-Inquire-clause-store
returns-in-Inquire-clause-store g c = no_call c.args.store.now _ c.tells.ensures.leaves.kept

pub returns-in-Ticket-clause-store : goal.returns-in-Ticket-clause-store
returns-in-Ticket-clause-store g c = no_call c.args.store.now _ c.stays.ensures.kept

pub returns-in-Rows-clause-store : goal.returns-in-Rows-clause-store
returns-in-Rows-clause-store g c = no_call c.args.store.now _ c.stays-in-Rows.ensures.kept

pub returns-in-Refused-clause-store : goal.returns-in-Refused-clause-store
returns-in-Refused-clause-store g c = no_call c.args.store.now _ c.stays-in-Refused.ensures.kept

pub returns-in-Voted-clause-store : goal.returns-in-Voted-clause-store
returns-in-Voted-clause-store g c = no_call c.args.store.now _ c.stays-in-Voted.ensures.kept
