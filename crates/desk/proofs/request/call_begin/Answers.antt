-- Why `call_begin` meets its contract.
use Rattle.std.proofs.Common.{rules, ◌≡◌, false, sym, ◌∙◌}
use Rattle.desk.specs.State.{anyone_moves, volatile_of}
use Rattle.desk.proofs.Beginning.{anyone_is, begins, calm_all, past_limit}
use Rattle.desk.proofs.request.call_begin.Goals as goal

pub returns-clause-ok : goal.returns-clause-ok
returns-clause-ok c = λ db kept over fits.
    let p = c.args.volatile.now in
    let none : anyone_moves (volatile_of p) ≡ false = sym (anyone_is p.standings.entries c.moves.ensures.ordered) ∙ sym c.moves.ensures.moves ∙ c.if-moves.false in
    begins db kept p.standings.entries p.undecided p.life p.number p.version fits c.args.sites.now over.sites false (calm_all db kept (volatile_of p) fits none) (λ moves. cc) (volatile_of c.begin.new.self) c.in_ok-participants.participants.items c.in_ok-txn.txn c.out_of_begin.result.letters c.out_of_begin.result.replies
    c.in_ok-participants.ensures (search rules) c.in_ok-txn.ensures.few c.in_ok-txn.ensures.low c.in_ok-txn.ensures.txn (search rules) (c.out_of_begin.ensures.replies c.in_ok-room.ensures.empty)

pub returns-clause-accepted : goal.returns-clause-accepted
returns-clause-accepted c = sym (anyone_is c.args.volatile.now.standings.entries c.moves.ensures.ordered) ∙ sym c.moves.ensures.moves ∙ c.if-moves.false

pub returns-then-moves-clause-alone : goal.returns-then-moves-clause-alone
returns-then-moves-clause-alone c = λ alone. sym (anyone_is c.args.volatile.now.standings.entries c.moves.ensures.ordered) ∙ sym c.moves.ensures.moves ∙ c.if-moves.true

pub returns-in_err-txn-clause-full : goal.returns-in_err-txn-clause-full
returns-in_err-txn-clause-full c = λ db kept over fits full.
    let p = c.args.volatile.now in
    past_limit db kept p.standings.entries p.undecided p.life p.number p.version fits c.args.sites.now over.sites false c.in_err-txn.ensures.full.1
