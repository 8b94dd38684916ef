-- Why `run_at_once` meets its contract.
use Rattle.std.proofs.Common.{rules, [], refl}
use Rattle.protocol.specs.Letters.{txn_name}
use Rattle.desk.proofs.Doing.{works_once}
use Rattle.desk.proofs.Full.{once_long}
use Rattle.desk.proofs.PastLimit.{writes_past}
use Rattle.desk.specs.Statement.{write_sites}
use Rattle.desk.proofs.request.run_at_once.Goals as goal

pub returns-clause-does : goal.returns-clause-does
returns-clause-does c = λ db n of same are idle planned list.
    let worked = c.in_ok-worked.worked in
    let home = c.in_ok-worked.ensures.home db n of same tt in
    let have = c.in_ok-worked.ensures.participants db n c.args.undecided.now.participants of same tt are.sites in
    works_once db of n c.args.txn c.args.undecided.now c.works.new.undecided idle c.args.statement.now c.args.plan.now [] planned list c.works.result (c.works.ensures.within db n are.sites home) refl worked.answer worked.unsent.items home
    (c.in_ok-worked.ensures.explained db n (txn_name c.args.txn) [] (search rules) of same tt planned) (λ others. c.works.ensures.step db (n, c.args.statement.now) others are have)

pub returns-clause-full : goal.returns-clause-full
returns-clause-full c = λ db n of same are idle planned list full.
    let worked = c.in_ok-worked.worked in
    once_long db of n c.args.txn c.args.undecided.now idle c.args.statement.now c.args.plan.now [] planned list refl worked.answer worked.unsent.items (c.in_ok-worked.ensures.explained db n (txn_name c.args.txn) [] (search rules) of same tt planned)
    (λ others. writes_past db c.args.txn c.args.undecided.now are.sites (write_sites worked.unsent.items) (n, c.args.statement.now) others worked.answer worked.unsent.items (c.works.ensures.sends.full full))
