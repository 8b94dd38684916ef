-- Why `on_open` meets its contract.
use Rattle.std.proofs.Common.{◌≡◌, Ok, Some, true, false, subst}
use Rattle.terms.specs.declared.memory.Memory.{Memory}
use Rattle.desk.specs.declared.transaction.TxnState.TheVariants as standing
use Rattle.desk.specs.Frame.{LeavesNoRow}
use Rattle.desk.specs.Participants.{participant_in}
use Rattle.desk.specs.Receive.{goes_on}
use Rattle.desk.proofs.Called.{no_call}
use Rattle.desk.proofs.Counted.{some_first}
use Rattle.desk.proofs.Leaving.{leaves_standing, leaves_still, no_row_keeps}
use Rattle.desk.proofs.Raised.{low_by}
use Rattle.desk.proofs.receive.on_open.Goals as goal

pub returns-in-Voted : goal.returns-in-Voted
returns-in-Voted g c = record {
  store = rw c.in-Voted.is c.on_vote.ensures.store;
  turn = λ db choice are. rw c.in-Voted.is (c.on_vote.ensures.turn db choice are);
  sites = c.on_vote.ensures.sites;
  keeps = c.on_vote.ensures.keeps;
  below = c.on_vote.ensures.below;
}

pub returns-in-Refused : goal.returns-in-Refused
returns-in-Refused g c =
    let u = c.args.undecided.now in
    let said = c.on_refusal.ensures in
    let leaves : LeavesNoRow u c.on_refusal.result = record { quiet = said.quiet; sites = said.sites; keeps = said.keeps; kept = said.kept } in
    record {
      store = no_call c.args.store.now _ leaves.kept;
      turn = λ db choice are. rw c.in-Refused.is (said.turn db choice are);
      sites = λ distinct. leaves.sites;
      keeps = λ db are clean sound none remembered. no_row_keeps u c.args.txn (g.S.DeskStore.kept c.args.store.now) none c.on_refusal.result leaves;
      below = low_by (Some (standing.Undecided u)) c.args.version c.on_refusal.result leaves.quiet;
    }

pub returns-in-Ticket : goal.returns-in-Ticket
returns-in-Ticket g c =
    let u = c.args.undecided.now in
    let first = (participant_in c.args.site.now u.participants).ticket in
    let leaves = leaves_standing u c.on_another.result c.on_another.ensures.leaves in
    record {
      store = no_call c.args.store.now _ leaves.kept;
      turn = λ db choice are. rw c.in-Ticket.is (c.on_another.ensures.turn db choice (some_first first (subst (λ said. goes_on first said ≡ false) c.in-Ticket.is c.requires)));
      sites = λ distinct. leaves.sites;
      keeps = λ db are clean sound none remembered. no_row_keeps u c.args.txn (g.S.DeskStore.kept c.args.store.now) none c.on_another.result leaves;
      below = low_by (Some (standing.Undecided u)) c.args.version c.on_another.result leaves.quiet;
    }

pub returns-in-Rows : goal.returns-in-Rows
returns-in-Rows g c =
    let u = c.args.undecided.now in
    let leaves = leaves_still u c.stays.result c.stays.ensures.after c.stays.ensures.kept c.stays.ensures.reply in
    record {
      store = no_call c.args.store.now _ leaves.kept;
      turn = λ db choice are. absurd (no_rows (subst (λ said. goes_on (participant_in c.args.site.now u.participants).ticket said ≡ false) c.in-Rows.is c.requires));
      sites = λ distinct. leaves.sites;
      keeps = λ db are clean sound none remembered. no_row_keeps u c.args.txn (g.S.DeskStore.kept c.args.store.now) none (Ok c.stays.result) leaves;
      below = low_by {E = Memory} (Some (standing.Undecided u)) c.args.version (Ok c.stays.result) leaves.quiet;
    }
  where
    no_rows : true ≡ false → ⊥
    no_rows e = cc

pub returns-in-Ack : goal.returns-in-Ack
returns-in-Ack g c =
    let u = c.args.undecided.now in
    let said = c.stays-in-Ack.ensures in
    let leaves = leaves_still u c.stays-in-Ack.result said.after said.kept said.reply in
    record {
      store = no_call c.args.store.now _ leaves.kept;
      turn = λ db choice are. rw c.in-Ack.is (said.turn db c.args.txn (Some (standing.Undecided u)));
      sites = λ distinct. leaves.sites;
      keeps = λ db are clean sound none remembered. no_row_keeps u c.args.txn (g.S.DeskStore.kept c.args.store.now) none (Ok c.stays-in-Ack.result) leaves;
      below = low_by {E = Memory} (Some (standing.Undecided u)) c.args.version (Ok c.stays-in-Ack.result) leaves.quiet;
    }

pub returns-in-Inquire : goal.returns-in-Inquire
returns-in-Inquire g c =
    let u = c.args.undecided.now in
    let leaves = leaves_standing u c.unanswered.result c.unanswered.ensures.leaves in
    record {
      store = no_call c.args.store.now _ leaves.kept;
      turn = λ db choice are. rw c.in-Inquire.is (c.unanswered.ensures.turn db c.args.txn (Some (standing.Undecided u)));
      sites = λ distinct. leaves.sites;
      keeps = λ db are clean sound none remembered. no_row_keeps u c.args.txn (g.S.DeskStore.kept c.args.store.now) none c.unanswered.result leaves;
      below = low_by (Some (standing.Undecided u)) c.args.version c.unanswered.result leaves.quiet;
    }
