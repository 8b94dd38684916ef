-- Why `on_ack` meets its contract.
use Rattle.std.proofs.Common.{Some, map, refl, sym, ap, ◌∙◌, inl, inr, subst, arith, rules}
use Rattle.desk.specs.declared.transaction.TxnState.TheVariants as standing
use Rattle.desk.specs.declared.transaction.Committed.{Committed}
use Rattle.desk.specs.Acknowledge.{AreInOrder}
use Rattle.desk.specs.Database.{sent}
use Rattle.desk.specs.Transition.{AtSites}
use Rattle.desk.proofs.Acknowledged.{old_ack, one_ack, last_ack, lost_ack}
use Rattle.desk.proofs.Called.{ack_calls, no_call}
use Rattle.desk.proofs.acknowledge.on_ack.Goals as goal

pub returns-then-not-is_new-clause-turn : goal.returns-then-not-is_new-clause-turn
returns-then-not-is_new-clause-turn g c = λ db.
    old_ack db c.args.committed.now c.args.site.now c.args.ticket c.args.txn c.stays.result (sym c.is_new.ensures ∙ c.if-not-is_new.true) (c.stays.ensures.turn db c.args.txn (Some (standing.Committed c.args.committed.now)))

pub returns-then-not-is_done-clause-turn : goal.returns-then-not-is_done-clause-turn
returns-then-not-is_done-clause-turn g c = λ db.
    one_ack db c.args.committed.now c.args.site.now c.args.ticket c.args.txn c.becomes.result c.in_ok-more.more c.in_ok-more.ensures (sym c.is_new.ensures ∙ c.if-not-is_new.false) (sym c.is_done.ensures ∙ c.if-not-is_done.true)
    (c.becomes.ensures.turn db c.args.txn (Some (standing.Committed c.args.committed.now)))

pub returns-then-not-kept-clause-turn : goal.returns-then-not-kept-clause-turn
returns-then-not-kept-clause-turn g c = λ db.
    lost_ack db c.args.committed.now c.args.site.now c.args.ticket c.args.txn c.stays-then-not-kept.result c.in_ok-more.more c.in_ok-more.ensures (sym c.is_new.ensures ∙ c.if-not-is_new.false) (sym c.is_done.ensures ∙ c.if-not-is_done.false) c.stays-then-not-kept.ensures.kept
    (c.stays-then-not-kept.ensures.turn db c.args.txn (Some (standing.Committed c.args.committed.now)))

pub returns-in-Ok-clause-turn : goal.returns-in-Ok-clause-turn
returns-in-Ok-clause-turn g c = λ db.
    last_ack db c.args.committed.now c.args.site.now c.args.ticket c.args.txn _ c.in_ok-more.more c.in_ok-more.ensures (sym c.is_new.ensures ∙ c.if-not-is_new.false) (sym c.is_done.ensures ∙ c.if-not-is_done.false)
    (record { stands = refl; letters = ap (map (sent db)) c.new.ensures.items; replies = refl })

pub returns-clause-turn : goal.returns-clause-turn
returns-clause-turn g c = λ db.
    lost_ack db c.args.committed.now c.args.site.now c.args.ticket c.args.txn c.stays-in-Err.result c.in_ok-more.more c.in_ok-more.ensures (sym c.is_new.ensures ∙ c.if-not-is_new.false) (sym c.is_done.ensures ∙ c.if-not-is_done.false) c.stays-in-Err.ensures.kept
    (c.stays-in-Err.ensures.turn db c.args.txn (Some (standing.Committed c.args.committed.now)))

pub returns-then-not-kept-clause-store : goal.returns-then-not-kept-clause-store
returns-then-not-kept-clause-store g c = record {
  leaves = record { clean = λ clean. clean; counts = omega arith; sound = λ clean sound. sound };
  uncalled = λ unmade. refl;
  same = λ clean sound. tt;
  called = λ unkept db. ack_calls db c.args.committed.now c.args.site.now c.args.ticket c.in_ok-more.more c.in_ok-more.ensures (sym c.is_new.ensures ∙ c.if-not-is_new.false) (sym c.is_done.ensures ∙ c.if-not-is_done.false);
  refusal = λ unkept. inl c.if-not-kept.true;
}

pub returns-clause-store : goal.returns-clause-store
returns-clause-store g c = record {
  leaves = c.drop_commit.ensures.leaves;
  uncalled = λ unmade. (let made = c.if-not-kept.false in cc);
  same = λ clean sound. tt;
  called = λ unkept db. ack_calls db c.args.committed.now c.args.site.now c.args.ticket c.in_ok-more.more c.in_ok-more.ensures (sym c.is_new.ensures ∙ c.if-not-is_new.false) (sym c.is_done.ensures ∙ c.if-not-is_done.false);
  refusal = λ unkept. inr (search rules);
}

pub returns-then-not-is_done-clause-sites : goal.returns-then-not-is_done-clause-sites
returns-then-not-is_done-clause-sites g c = λ sites order. subst (λ a. AtSites sites a) (sym c.becomes.ensures.after) (subst (λ (m : Committed). AreInOrder sites m.voters) (sym c.in_ok-more.ensures) order)

pub returns-then-not-is_new-clause-store : goal.returns-then-not-is_new-clause-store
returns-then-not-is_new-clause-store g c = no_call c.args.store.now _ c.stays.ensures.kept

pub returns-then-not-is_done-clause-store : goal.returns-then-not-is_done-clause-store
returns-then-not-is_done-clause-store g c = no_call c.args.store.now _ c.becomes.ensures.kept

pub returns-in-Ok-clause-store : goal.returns-in-Ok-clause-store
returns-in-Ok-clause-store g c = record {
  leaves = c.drop_commit.ensures.leaves;
  uncalled = λ unmade. (let made = c.if-not-kept.false in cc);
  same = λ clean sound. tt;
  called = λ unkept. (let no = unkept in cc);
  refusal = λ unkept. (let no = unkept in cc);
}
