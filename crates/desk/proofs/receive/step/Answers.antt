-- Why `step` meets its contract.
use Rattle.std.proofs.Common.{◌≡◌, ◌+◌, ◌^◌, ◌<◌, true, Some, sym, ap, ◌∙◌, subst, IfOk}
use Rattle.protocol.specs.Desk.{on_desk_letter}
use Rattle.protocol.specs.Letters.{txn_name}
use Rattle.desk.specs.declared.transaction.TxnState.TheVariants as standing
use Rattle.desk.specs.Called.{CallsStore}
use Rattle.desk.specs.Request.{IsAt}
use Rattle.desk.specs.Database.{Database, language, replied}
use Rattle.desk.specs.Transaction.{txn_of}
use Rattle.desk.specs.State.{volatile_of}
use Rattle.desk.specs.Transition.{AreParticipants, AtSites, IsTransition, after_of, raises}
use Rattle.desk.specs.Acknowledge.{Keeps, kept_voters}
use Rattle.desk.proofs.Called.{no_call, steps_as}
use Rattle.desk.proofs.receive.step.Goals as goal

pub returns-in-None-clause-turn : goal.returns-in-None-clause-turn
returns-in-None-clause-turn g c = λ db choice at.
    subst (λ p. IfOk c.on_unknown.result (λ turn. IsTransition db c.args.txn p turn (on_desk_letter (txn_name c.args.txn) c.args.site.now turn.kept choice (replied db c.args.site.now c.args.reply.now) (txn_of db p))))
    c.in-None.ensures (c.on_unknown.ensures.turn db)

pub returns-in-Some-Undecided-clause-turn : goal.returns-in-Some-Undecided-clause-turn
returns-in-Some-Undecided-clause-turn g c = λ db choice.
    let o = (volatile_of c.args.volatile.now).standing c.args.txn in
    let is : Some (standing.Undecided c.in-Some-Undecided.undecided) ≡ o = ap Some (sym c.in-Some-Undecided.field-0-is) ∙ c.in-Some-Undecided.ensures in
    subst (λ p. IsAt db p → IfOk c.on_open.result (λ turn. IsTransition db c.args.txn p turn (on_desk_letter (txn_name c.args.txn) c.args.site.now turn.kept choice (replied db c.args.site.now c.args.reply.now) (txn_of db p))))
    is (λ at. c.on_open.ensures.turn db choice at)

pub returns-in-Some-Undecided-clause-keeps : goal.returns-in-Some-Undecided-clause-keeps
returns-in-Some-Undecided-clause-keeps g c = λ db.
    let o = (volatile_of c.args.volatile.now).standing c.args.txn in
    let kept = g.S.DeskStore.kept c.args.store.now in
    let is : Some (standing.Undecided c.in-Some-Undecided.undecided) ≡ o = ap Some (sym c.in-Some-Undecided.field-0-is) ∙ c.in-Some-Undecided.ensures in
    subst (λ p. IsAt db p → g.S.DeskStore.is_clean c.on_open.new.store → g.S.DeskStore.is_sound c.args.store.now → kept.commits c.args.txn ≡ kept_voters p → c.args.volatile.now.version ≡ kept.version → IfOk c.on_open.result (λ turn. Keeps c.args.txn (kept_voters (after_of p turn.after)) (raises p turn.reply) kept (g.S.DeskStore.kept c.on_open.new.store)))
    is (λ at clean sound none remembered. c.on_open.ensures.keeps db at clean sound none remembered)

pub returns-in-Some-Committed-clause-turn : goal.returns-in-Some-Committed-clause-turn
returns-in-Some-Committed-clause-turn g c = λ db choice at.
    let o = (volatile_of c.args.volatile.now).standing c.args.txn in
    let is : Some (standing.Committed c.in-Some-Committed.committed) ≡ o = ap Some (sym c.in-Some-Committed.field-0-is) ∙ c.in-Some-Committed.ensures in
    subst (λ p. IfOk c.on_row.result (λ turn. IsTransition db c.args.txn p turn (on_desk_letter (txn_name c.args.txn) c.args.site.now turn.kept choice (replied db c.args.site.now c.args.reply.now) (txn_of db p))))
    is (c.on_row.ensures.turn db)

pub returns-in-Some-Undecided-clause-store : goal.returns-in-Some-Undecided-clause-store
returns-in-Some-Undecided-clause-store g c =
    let o = (volatile_of c.args.volatile.now).standing c.args.txn in
    let is : Some (standing.Undecided c.in-Some-Undecided.undecided) ≡ o = ap Some (sym c.in-Some-Undecided.field-0-is) ∙ c.in-Some-Undecided.ensures in
    steps_as (λ called. subst (λ p. (db : Database) → IsAt db p → CallsStore {L = language db} c.args.site.now (replied db c.args.site.now c.args.reply.now) (txn_of db p)) is called) c.on_open.ensures.store

pub returns-in-Some-Committed-clause-store : goal.returns-in-Some-Committed-clause-store
returns-in-Some-Committed-clause-store g c =
    let o = (volatile_of c.args.volatile.now).standing c.args.txn in
    let is : Some (standing.Committed c.in-Some-Committed.committed) ≡ o = ap Some (sym c.in-Some-Committed.field-0-is) ∙ c.in-Some-Committed.ensures in
    steps_as (λ called. subst (λ p. (db : Database) → IsAt db p → CallsStore {L = language db} c.args.site.now (replied db c.args.site.now c.args.reply.now) (txn_of db p)) is (λ db at. called db)) c.on_row.ensures.store

pub returns-in-Some-Undecided-clause-sites : goal.returns-in-Some-Undecided-clause-sites
returns-in-Some-Undecided-clause-sites g c = λ db at.
    let o = (volatile_of c.args.volatile.now).standing c.args.txn in
    let is : Some (standing.Undecided c.in-Some-Undecided.undecided) ≡ o = ap Some (sym c.in-Some-Undecided.field-0-is) ∙ c.in-Some-Undecided.ensures in
    let are : AreParticipants db c.in-Some-Undecided.undecided.participants = subst (λ p. IsAt db p) (sym is) at in
    subst (λ sites. IfOk c.on_open.result (λ turn. AtSites sites turn.after)) are.sites (c.on_open.ensures.sites are.distinct)

pub returns-in-Some-Committed-clause-sites : goal.returns-in-Some-Committed-clause-sites
returns-in-Some-Committed-clause-sites g c = λ db at.
    let o = (volatile_of c.args.volatile.now).standing c.args.txn in
    let is : Some (standing.Committed c.in-Some-Committed.committed) ≡ o = ap Some (sym c.in-Some-Committed.field-0-is) ∙ c.in-Some-Committed.ensures in
    c.on_row.ensures.sites db.sites (subst (λ p. IsAt db p) (sym is) at)

pub returns-in-Some-Undecided-clause-below : goal.returns-in-Some-Undecided-clause-below
returns-in-Some-Undecided-clause-below g c =
    let o = (volatile_of c.args.volatile.now).standing c.args.txn in
    let is : Some (standing.Undecided c.in-Some-Undecided.undecided) ≡ o = ap Some (sym c.in-Some-Undecided.field-0-is) ∙ c.in-Some-Undecided.ensures in
    subst (λ p. IfOk c.on_open.result (λ turn. raises p turn.reply ≡ true → c.args.volatile.now.version + 1 < 2 ^ 64)) is c.on_open.ensures.below

pub returns-in-None-clause-store : goal.returns-in-None-clause-store
returns-in-None-clause-store g c = no_call c.args.store.now _ c.on_unknown.ensures.leaves.kept

pub returns-in-Some-Committed-clause-keeps : goal.returns-in-Some-Committed-clause-keeps
returns-in-Some-Committed-clause-keeps g c = λ db.
    let o = (volatile_of c.args.volatile.now).standing c.args.txn in
    let kept = g.S.DeskStore.kept c.args.store.now in
    let is : Some (standing.Committed c.in-Some-Committed.committed) ≡ o = ap Some (sym c.in-Some-Committed.field-0-is) ∙ c.in-Some-Committed.ensures in
    subst (λ p. IsAt db p → g.S.DeskStore.is_clean c.on_row.new.store → g.S.DeskStore.is_sound c.args.store.now → kept.commits c.args.txn ≡ kept_voters p → c.args.volatile.now.version ≡ kept.version → IfOk c.on_row.result (λ turn. Keeps c.args.txn (kept_voters (after_of p turn.after)) (raises p turn.reply) kept (g.S.DeskStore.kept c.on_row.new.store)))
    is (λ at clean sound here remembered. c.on_row.ensures.keeps clean sound here)
