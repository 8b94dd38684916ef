-- Why `rollback_step` meets its contract.
use Rattle.std.proofs.Common.{sym, ap, ◌∙◌, subst}
use Rattle.std.specs.Option.{option_copied}
use Rattle.protocol.specs.Desk.{Rollback, on_request}
use Rattle.protocol.specs.Letters.{txn_name}
use Rattle.desk.specs.Request.{IsAt}
use Rattle.desk.specs.Transaction.{txn_of}
use Rattle.desk.specs.State.{volatile_of}
use Rattle.desk.specs.Transition.{IsTransition}
use Rattle.desk.proofs.Making.{open_some}
use Rattle.desk.proofs.request.rollback_step.Goals as goal

pub returns-clause-turn : goal.returns-clause-turn
returns-clause-turn c = λ db choice.
    let o = (volatile_of c.args.volatile.now).standing c.args.txn in
    subst (λ p. IsAt db p → IsTransition db c.args.txn p c.in_ok-roll_back.field-0 (on_request (txn_name c.args.txn) choice Rollback (txn_of db p)))
    (sym (open_some o c.in-Some.undecided.now (sym c.undecided_of.ensures ∙ ap option_copied c.in-Some.is)))
    (λ at. c.in_ok-roll_back.ensures.turn db at)
