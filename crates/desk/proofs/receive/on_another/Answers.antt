-- Why `on_another` meets its contract.
use Rattle.std.proofs.Common.{Some, sym, ap, ◌∙◌}
use Rattle.protocol.specs.Letters.{txn_name}
use Rattle.desk.specs.declared.transaction.TxnState.TheVariants as standing
use Rattle.desk.specs.Commit.{is_first}
use Rattle.desk.specs.Participants.{participant_in}
use Rattle.desk.proofs.Acknowledged.{turn_as}
use Rattle.desk.proofs.Counted.{other_ticket, same_ticket, turns_as}
use Rattle.desk.proofs.receive.on_another.Goals as goal

pub returns-then-is_first-clause-turn : goal.returns-then-is_first-clause-turn
returns-then-is_first-clause-turn c = λ db choice some.
    let u = c.args.undecided.now in
    turn_as db c.args.txn (Some (standing.Undecided u)) c.stays.result _ _
    (same_ticket db (txn_name c.args.txn) u c.args.site.now c.args.ticket choice (participant_in c.args.site.now u.participants).ticket
    (ap (is_first c.args.ticket) (ap (λ ss. (participant_in c.args.site.now ss).ticket) (sym c.as_slice.ensures) ∙ sym c.ticket_of-first.ensures) ∙ sym c.is_first.ensures ∙ c.if-is_first.true))
    (c.stays.ensures.turn db c.args.txn (Some (standing.Undecided u)))

pub returns-clause-turn : goal.returns-clause-turn
returns-clause-turn c = λ db choice some.
    let u = c.args.undecided.now in
    turns_as db c.args.txn (Some (standing.Undecided u)) _ _
    (λ turn. other_ticket db (txn_name c.args.txn) u c.args.site.now c.args.ticket choice (participant_in c.args.site.now u.participants).ticket some
    (ap (is_first c.args.ticket) (ap (λ ss. (participant_in c.args.site.now ss).ticket) (sym c.as_slice.ensures) ∙ sym c.ticket_of-first.ensures) ∙ sym c.is_first.ensures ∙ c.if-is_first.false))
    c.tells.result (c.tells.ensures.turn db (Some (standing.Undecided u)))
