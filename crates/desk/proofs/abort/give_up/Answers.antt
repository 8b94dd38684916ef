-- Why `give_up` meets its contract.
use Rattle.std.proofs.Common.{Some, refl}
use Rattle.protocol.specs.Desk.{Aborted, Given_up}
use Rattle.protocol.specs.Letters.{txn_name}
use Rattle.desk.specs.declared.transaction.TxnState.TheVariants as standing
use Rattle.desk.proofs.Stages.{ends_as}
use Rattle.desk.specs.declared.reply.Reply.TheVariants as reply
use Rattle.desk.specs.declared.reply.Why.TheVariants as why
use Rattle.desk.proofs.Leaving.{leaves_ended}
use Rattle.desk.proofs.abort.give_up.Goals as goal

pub returns-clause-turn : goal.returns-clause-turn
returns-clause-turn c = λ db are.
    ends_as db c.args.txn (Some (standing.Undecided c.args.undecided.now)) c.args.undecided.now c.as_slice-participants.result.now (Aborted (txn_name c.args.txn) Given_up) _ c.ends.result c.as_slice-participants.ensures are refl
    (λ those. c.ends.ensures.turn db (Some (standing.Undecided c.args.undecided.now)) c.args.undecided.now.stage c.args.undecided.now.moves (Aborted (txn_name c.args.txn) Given_up) those c.abort_broadcast-word.ensures refl)

pub returns-clause-leaves : goal.returns-clause-leaves
returns-clause-leaves c = leaves_ended c.args.undecided.now (Some (reply.Aborted why.GivenUp)) c.ends.result refl c.ends.ensures.after c.ends.ensures.kept c.ends.ensures.reply
