-- Why `roll_back` meets its contract.
use Rattle.std.proofs.Common.{Some, refl, sym, ◌∙◌}
use Rattle.protocol.specs.Desk.{Rolled_back}
use Rattle.protocol.specs.Letters.{txn_name}
use Rattle.desk.specs.declared.transaction.TxnState.TheVariants as standing
use Rattle.desk.specs.Transaction.{undecided_of}
use Rattle.desk.proofs.Acknowledged.{turn_as}
use Rattle.desk.proofs.Stages.{ends_as, late_rollback, early_rollback}
use Rattle.desk.specs.declared.reply.Reply.TheVariants as reply
use Rattle.desk.proofs.Leaving.{leaves_ended, leaves_still}
use Rattle.desk.proofs.abort.roll_back.Goals as goal

pub returns-then-is_voting-clause-turn : goal.returns-then-is_voting-clause-turn
returns-then-is_voting-clause-turn c = λ db are.
    turn_as db c.args.txn (Some (standing.Undecided c.args.undecided.now)) c.stays.result _ _ (late_rollback db (txn_name c.args.txn) (undecided_of db c.args.undecided.now) c.args.undecided.now.participants c.args.undecided.now.stage (sym c.is_voting.ensures ∙ c.if-is_voting.true)) (c.stays.ensures.turn db c.args.txn (Some (standing.Undecided c.args.undecided.now)))

pub returns-clause-turn : goal.returns-clause-turn
returns-clause-turn c = λ db are.
    ends_as db c.args.txn (Some (standing.Undecided c.args.undecided.now)) c.args.undecided.now c.as_slice-participants.result.now (Rolled_back (txn_name c.args.txn)) _ c.ends.result c.as_slice-participants.ensures are (early_rollback db (txn_name c.args.txn) (undecided_of db c.args.undecided.now) c.args.undecided.now.participants c.args.undecided.now.stage (sym c.is_voting.ensures ∙ c.if-is_voting.false))
    (λ those. c.ends.ensures.turn db (Some (standing.Undecided c.args.undecided.now)) c.args.undecided.now.stage c.args.undecided.now.moves (Rolled_back (txn_name c.args.txn)) those c.abort_broadcast-word.ensures refl)

pub returns-clause-leaves : goal.returns-clause-leaves
returns-clause-leaves c = leaves_ended c.args.undecided.now (Some reply.RolledBack) c.ends.result refl c.ends.ensures.after c.ends.ensures.kept c.ends.ensures.reply

pub returns-then-is_voting-clause-leaves : goal.returns-then-is_voting-clause-leaves
returns-then-is_voting-clause-leaves c = leaves_still c.args.undecided.now c.stays.result c.stays.ensures.after c.stays.ensures.kept c.stays.ensures.reply
