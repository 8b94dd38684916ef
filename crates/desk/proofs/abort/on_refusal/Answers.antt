-- Why `on_refusal` meets its contract.
use Rattle.std.proofs.Common.{Some, sym, ap, ◌∙◌}
use Rattle.protocol.specs.Letters.{txn_name}
use Rattle.desk.specs.declared.transaction.TxnState.TheVariants as standing
use Rattle.desk.specs.Commit.{is_first}
use Rattle.desk.specs.Participants.{participant_in}
use Rattle.desk.proofs.Acknowledged.{turn_as}
use Rattle.desk.proofs.Counted.{refusal_counts, refusal_lost, turns_as}
use Rattle.desk.proofs.Leaving.{leaves_still}
use Rattle.desk.proofs.abort.on_refusal.Goals as goal

pub returns-else-gave_first : goal.returns-else-gave_first
returns-else-gave_first c =
    let u = c.args.undecided.now in
    let leaves = leaves_still u c.stays.result c.stays.ensures.after c.stays.ensures.kept c.stays.ensures.reply in
    record {
      turn = λ db choice are.
          turn_as db c.args.txn (Some (standing.Undecided u)) c.stays.result _ _
          (refusal_lost db (txn_name c.args.txn) u c.args.site.now c.args.refusal choice c.stays.result.kept
          (ap (λ ss. is_first c.args.refusal.ticket (participant_in c.args.site.now ss).ticket) (sym c.as_slice.ensures) ∙ sym c.gave_first.ensures ∙ c.if-gave_first.false))
          (c.stays.ensures.turn db c.args.txn (Some (standing.Undecided u)));
      sites = leaves.sites;
      keeps = leaves.keeps;
      kept = leaves.kept;
      quiet = leaves.quiet;
    }

pub returns-then-gave_first : goal.returns-then-gave_first
returns-then-gave_first c =
    let u = c.args.undecided.now in
    let leaves = c.refused.ensures.leaves in
    record {
      turn = λ db choice are.
          let first = ap (λ ss. is_first c.args.refusal.ticket (participant_in c.args.site.now ss).ticket) (sym c.as_slice.ensures) ∙ sym c.gave_first.ensures ∙ c.if-gave_first.true in
          turns_as db c.args.txn (Some (standing.Undecided u)) _ _ (λ turn. refusal_counts db (txn_name c.args.txn) u c.args.site.now c.args.refusal choice turn.kept first) c.refused.result (c.refused.ensures.turn db are);
      sites = leaves.sites;
      keeps = leaves.keeps;
      kept = leaves.kept;
      quiet = leaves.quiet;
    }
