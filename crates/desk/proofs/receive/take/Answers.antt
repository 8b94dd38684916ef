-- Why `take` meets its contract.
use Rattle.std.proofs.Common.{true, sym, subst}
use Rattle.protocol.specs.Desk.{on_desk_letter}
use Rattle.protocol.specs.Letters.{txn_name}
use Rattle.desk.specs.Database.{replied}
use Rattle.desk.specs.Request.{txn_in}
use Rattle.desk.specs.State.{Steps, volatile_of}
use Rattle.desk.proofs.Called.{no_call, steps_made}
use Rattle.desk.proofs.Making.{is_at, takes}
use Rattle.desk.proofs.receive.take.Goals as goal

pub returns-clause-ok : goal.returns-clause-ok
returns-clause-ok g c = λ db choice distinct clean sound fits.
    takes db (g.S.DeskStore.kept c.args.store.now) (g.S.DeskStore.kept c.step.new.store) c.args.volatile.now c.make.ensures.ordered fits distinct c.args.txn choice c.args.site.now c.args.reply.now c.in_ok-turn.turn
    c.requires (λ at. c.in_ok-turn.ensures.turn db choice at) (λ at. c.in_ok-turn.ensures.sites db at) (λ at rows. c.in_ok-turn.ensures.keeps db at clean sound rows fits.version) c.in_ok-turn.ensures.below c.in_ok-turn.ensures.stands
    (volatile_of c.make.new.volatile) (record { moved = c.make.ensures.settled; still = c.make.ensures.still })
    c.make.result.letters c.make.result.replies c.make.result.kept c.make.ensures.letters (c.make.ensures.replies c.in_ok-room.ensures.empty) c.make.ensures.kept

pub returns-clause-store : goal.returns-clause-store
returns-clause-store g c =
    steps_made c.in_ok-turn.turn c.make.result c.make.ensures.kept
    (λ called db distinct fits. called db (is_at db (g.S.DeskStore.kept c.args.store.now) (volatile_of c.args.volatile.now) distinct fits c.args.txn)) c.in_ok-turn.ensures.store

pub returns-in-Some-clause-ok : goal.returns-in-Some-clause-ok
returns-in-Some-clause-ok g c = λ db choice distinct clean sound fits.
    let kept = g.S.DeskStore.kept c.args.store.now in
    let before = volatile_of c.args.volatile.now in
    let out = c.take_vote.result in
    subst (λ was. Steps db before kept (volatile_of c.take_vote.new.volatile) c.args.txn (on_desk_letter (txn_name c.args.txn) c.args.site.now was choice (replied db c.args.site.now c.args.reply.now) (txn_in db before c.args.txn)) out.letters out.replies) (sym c.take_vote.ensures.kept)
    (subst (λ said. Steps db before kept (volatile_of c.take_vote.new.volatile) c.args.txn (on_desk_letter (txn_name c.args.txn) c.args.site.now true choice (replied db c.args.site.now said) (txn_in db before c.args.txn)) out.letters out.replies) (sym c.in-Some.ensures.0)
    (c.take_vote.ensures.ok db choice kept distinct fits))

pub returns-in-Some-clause-store : goal.returns-in-Some-clause-store
returns-in-Some-clause-store g c = no_call c.args.store.now _ c.take_vote.ensures.kept
