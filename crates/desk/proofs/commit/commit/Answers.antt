-- Why `commit` meets its contract.
use Rattle.std.proofs.Common.{Some, None, sym, ap, ◌∙◌, map, refl}
use Rattle.std.specs.List.{list_all}
use Rattle.desk.specs.declared.send.Broadcast.TheVariants.{Prepare}
use Rattle.desk.specs.declared.transaction.TxnState.TheVariants as standing
use Rattle.desk.specs.Orders.{broadcast_letters}
use Rattle.desk.specs.Participants.{is_in, sites_of, with_vote}
use Rattle.desk.proofs.Changed.{same_sites}
use Rattle.desk.proofs.Raised.{never}
use Rattle.desk.proofs.Phases.{commit_alone, commit_asks, commit_refused}
use Rattle.desk.proofs.Leaving.{leaves_still}
use Rattle.desk.proofs.commit.commit.Goals as goal

pub returns-then-not-is_idle-clause-turn : goal.returns-then-not-is_idle-clause-turn
returns-then-not-is_idle-clause-turn c = λ db are.
    commit_refused db c.args.txn c.args.undecided.now are c.stays.result (sym c.is_idle.ensures ∙ c.if-not-is_idle.true) (c.stays.ensures.turn db c.args.txn (Some (standing.Undecided c.args.undecided.now)))

pub returns-then-are_all_in-clause-turn : goal.returns-then-are_all_in-clause-turn
returns-then-are_all_in-clause-turn c = λ db are.
    commit_alone db c.args.txn c.args.undecided.now are c.commits_at_once.result c.in_ok-participants.participants.items (c.in_ok-participants.ensures ∙ ap (map (with_vote None)) c.as_slice.ensures) (sym c.is_idle.ensures ∙ c.if-not-is_idle.false)
    (sym (c.are_all_in.ensures ∙ ap (list_all is_in) c.deref.ensures.value) ∙ c.if-are_all_in.true) (c.commits_at_once.ensures.turn db c.args.txn (Some (standing.Undecided c.args.undecided.now)))

pub returns-clause-turn : goal.returns-clause-turn
returns-clause-turn c = λ db are.
    commit_asks db c.args.txn c.args.undecided.now are c.in_ok-letters.letters c.in_ok-participants.participants.items c.voting.result (c.in_ok-participants.ensures ∙ ap (map (with_vote None)) c.as_slice.ensures) c.voting.ensures (sym c.is_idle.ensures ∙ c.if-not-is_idle.false)
    (sym (c.are_all_in.ensures ∙ ap (list_all is_in) c.deref.ensures.value) ∙ c.if-are_all_in.false) (c.in_ok-letters.ensures ∙ ap (broadcast_letters c.args.txn Prepare) c.as_slice-2.ensures)

pub returns-clause-leaves : goal.returns-clause-leaves
returns-clause-leaves c = record {
  sites = (
    ap (λ u. sites_of u.participants) c.voting.ensures ∙ ap sites_of (c.in_ok-participants.ensures ∙ ap (map (with_vote None)) c.as_slice.ensures) ∙ same_sites (with_vote None) (λ s. refl) c.args.undecided.now.participants,
    ap (λ u. u.stage) c.voting.ensures,
  );
  keeps = refl;
  kept = refl;
  quiet = never c.args.undecided.now.moves;
}

pub returns-then-not-is_idle-clause-leaves : goal.returns-then-not-is_idle-clause-leaves
returns-then-not-is_idle-clause-leaves c = leaves_still c.args.undecided.now c.stays.result c.stays.ensures.after c.stays.ensures.kept c.stays.ensures.reply
