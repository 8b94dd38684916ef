-- Why `give_up_step` meets its contract.
use Rattle.std.proofs.Common.{sym, ap, ◌∙◌, subst}
use Rattle.std.specs.Option.{option_copied}
use Rattle.protocol.specs.Desk.{Give_up, on_request}
use Rattle.protocol.specs.Letters.{txn_name}
use Rattle.desk.specs.Request.{IsAt}
use Rattle.desk.specs.Transaction.{txn_of}
use Rattle.desk.specs.State.{volatile_of}
use Rattle.desk.specs.Transition.{IsTransition}
use Rattle.desk.proofs.Acknowledged.{turn_as}
use Rattle.desk.proofs.Making.{not_given_up, open_some}
use Rattle.desk.proofs.request.give_up_step.Goals as goal

pub returns-in_ok-give_up-in-Some-clause-turn : goal.returns-in_ok-give_up-in-Some-clause-turn
returns-in_ok-give_up-in-Some-clause-turn c = λ db choice.
    let o = (volatile_of c.args.volatile.now).standing c.args.txn in
    subst (λ p. IsAt db p → IsTransition db c.args.txn p c.in_ok-give_up-in-Some.field-0 (on_request (txn_name c.args.txn) choice Give_up (txn_of db p)))
    (sym (open_some o c.in-Some.undecided.now (sym c.undecided_of.ensures ∙ ap option_copied c.in-Some.is)))
    (λ at. c.in_ok-give_up-in-Some.ensures.turn db at)

pub returns-in-None-clause-turn : goal.returns-in-None-clause-turn
returns-in-None-clause-turn c = λ db choice at.
    let o = (volatile_of c.args.volatile.now).standing c.args.txn in
    turn_as db c.args.txn o c.stays.result _ _ (not_given_up db (txn_name c.args.txn) choice o (sym c.undecided_of.ensures ∙ ap option_copied c.in-None.is)) (c.stays.ensures.turn db c.args.txn o)
