-- Why `decides` meets its contract.
use Rattle.std.proofs.Common.{map, refl, sym, ap, ◌∙◌, inl, inr, subst, Ok, Some, List, [], ◌∷◌, ℕ, arith, rules}
use Rattle.terms.specs.declared.memory.Memory.{Memory}
use Rattle.store.specs.declared.commit.Voter.{Voter}
use Rattle.store.specs.DeskContent.{AreVoters}
use Rattle.protocol.specs.Desk.{decides}
use Rattle.protocol.specs.Letters.{txn_name}
use Rattle.desk.specs.declared.transaction.TxnState.TheVariants as standing
use Rattle.desk.specs.Commit.{committed_by}
use Rattle.desk.specs.Transaction.{undecided_of, voter_of}
use Rattle.desk.specs.Transition.{AtSites, IsTransition, says_committed, voting}
use Rattle.desk.specs.Acknowledge.{AreInOrder, commit_letters}
use Rattle.desk.proofs.Acknowledged.{unchanged}
use Rattle.desk.proofs.Decisions.{ended_keeps, keeps_row, kept_is, unkept_is}
use Rattle.desk.proofs.Raised.{quiet_is}
use Rattle.desk.proofs.commit.decides.Goals as goal

at_row : (sites : List (List ℕ)) (voters : List Voter) → AreInOrder sites voters → AtSites sites (committed_by voters)
at_row sites [] order = tt
at_row sites (v ∷ voters) order = order

pub returns-then-not-kept-clause-turn : goal.returns-then-not-kept-clause-turn
returns-then-not-kept-clause-turn g c = λ db old moves are some.
    unkept_is db c.args.txn old (undecided_of db (voting moves c.args.participants.now)) c.args.voters.items some {E = Memory} (Ok c.unkept.result) (c.unkept.ensures.turn db c.args.txn old moves c.args.participants.now are c.in_ok-aborts.ensures) c.unkept.ensures.kept

pub returns-then-not-kept-clause-keeps : goal.returns-then-not-kept-clause-keeps
returns-then-not-kept-clause-keeps g c = λ old are clean sound none remembered.
    let kept = g.S.DeskStore.kept c.args.store.now in
    let here = Some (standing.Undecided old) in
    ended_keeps c.args.txn here kept kept none (unchanged kept) {E = Memory} (Ok c.unkept.result) c.unkept.ensures.after (quiet_is here c.unkept.result.reply (ap says_committed c.unkept.ensures.reply))

pub returns-in-Ok-clause-turn : goal.returns-in-Ok-clause-turn
returns-in-Ok-clause-turn g c = λ db old moves are some.
    let u = undecided_of db (voting moves c.args.participants.now) in
    subst (λ b. IsTransition db c.args.txn old c.committed.result (decides (txn_name c.args.txn) u b (map voter_of c.args.voters.items))) (sym c.committed.ensures.kept)
    (kept_is db c.args.txn old u c.args.voters.items c.committed.result c.committed.ensures.after
    (ap (λ l. l.items) c.committed.ensures.letters ∙ c.in_ok-letters.ensures ∙ ap (commit_letters c.args.txn) c.deref.ensures.value) c.committed.ensures.reply)

pub returns-in-Ok-clause-keeps : goal.returns-in-Ok-clause-keeps
returns-in-Ok-clause-keeps g c = λ old are clean sound none remembered.
    keeps_row c.args.txn old (g.S.DeskStore.kept c.args.store.now) (g.S.DeskStore.kept c.keep_commit.new.self) _ c.args.voters.items c.args.in_force c.committed.result c.deref-2.ensures.value remembered
    (c.in-Ok.ensures.ok clean sound none (subst AreVoters (sym c.deref-2.ensures.value) are)) c.committed.ensures.after c.committed.ensures.reply

pub returns-clause-turn : goal.returns-clause-turn
returns-clause-turn g c = λ db old moves are some.
    unkept_is db c.args.txn old (undecided_of db (voting moves c.args.participants.now)) c.args.voters.items some {E = Memory} (Ok c.unkept-in-Err.result) (c.unkept-in-Err.ensures.turn db c.args.txn old moves c.args.participants.now are c.in_ok-aborts.ensures) c.unkept-in-Err.ensures.kept

pub returns-clause-keeps : goal.returns-clause-keeps
returns-clause-keeps g c = λ old are clean sound none remembered.
    let here = Some (standing.Undecided old) in
    ended_keeps c.args.txn here (g.S.DeskStore.kept c.args.store.now) (g.S.DeskStore.kept c.keep_commit.new.self) none (c.in-Err.ensures.fails.err clean sound) {E = Memory} (Ok c.unkept-in-Err.result) c.unkept-in-Err.ensures.after
    (quiet_is here c.unkept-in-Err.result.reply (ap says_committed c.unkept-in-Err.ensures.reply))

pub returns-in-Ok-clause-sites : goal.returns-in-Ok-clause-sites
returns-in-Ok-clause-sites g c = λ sites order. subst (AtSites sites) (sym c.committed.ensures.after) (at_row sites c.args.voters.items order)

pub returns-then-not-kept-clause-store : goal.returns-then-not-kept-clause-store
returns-then-not-kept-clause-store g c = record {
  leaves = record { clean = λ clean. clean; counts = omega arith; sound = λ clean sound. sound };
  uncalled = λ unmade. refl;
  same = λ clean sound. tt;
  called = λ unkept. tt;
  refusal = λ unkept. inl c.if-not-kept.true;
}

pub returns-in-Ok-clause-store : goal.returns-in-Ok-clause-store
returns-in-Ok-clause-store g c = record {
  leaves = c.keep_commit.ensures.leaves;
  uncalled = λ unmade. (let made = c.if-not-kept.false in cc);
  same = λ clean sound. tt;
  called = λ unkept. tt;
  refusal = λ unkept. (let no = unkept in cc);
}

pub returns-clause-store : goal.returns-clause-store
returns-clause-store g c = record {
  leaves = c.keep_commit.ensures.leaves;
  uncalled = λ unmade. (let made = c.if-not-kept.false in cc);
  same = λ clean sound. tt;
  called = λ unkept. tt;
  refusal = λ unkept. inr (search rules);
}
