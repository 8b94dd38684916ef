-- Why `start` meets its contract.
use Rattle.std.proofs.Common.{rules, ◌≡◌, Some, sym, ◌∙◌, subst}
use Rattle.protocol.specs.Desk.{State, on_request}
use Rattle.protocol.specs.Letters.{txn_name}
use Rattle.desk.specs.declared.transaction.TxnState.TheVariants as standing
use Rattle.desk.specs.Does.{IsShort}
use Rattle.desk.specs.State.{volatile_of}
use Rattle.desk.proofs.Doing.{goes_ok, same_ok, short_there, some_standing, participants_there}
use Rattle.desk.proofs.Full.{long_in}
use Rattle.desk.proofs.request.start.Goals as goal

pub returns-in-Some-clause-goes : goal.returns-in-Some-clause-goes
returns-in-Some-clause-goes c = λ db kept old of same fits here idle planned list.
    let volatile = c.args.volatile.now in
    let was = c.in-Some.standing.now in
    let found : (volatile_of volatile).standing c.args.txn ≡ Some was = search rules in
    let is : was ≡ standing.Undecided old = some_standing (sym found ∙ here) in
    goes_ok db kept volatile _ c.args.txn old c.start_in.new.standing fits here (search rules) (λ choice x. on_request (txn_name c.args.txn) choice (State (volatile.version, c.args.statement)) x) c.start_in.result
    (c.start_in.ensures.short (subst IsShort (sym is) (short_there db kept (volatile_of volatile) fits c.args.txn old here)))
    (c.start_in.ensures.does db old of same is (participants_there db kept (volatile_of volatile) fits c.args.txn old here of) idle planned list)

pub returns-in-Some-clause-err : goal.returns-in-Some-clause-err
returns-in-Some-clause-err c =
    let volatile = c.args.volatile.now in
    let was = c.in-Some.standing.now in
    let found : (volatile_of volatile).standing c.args.txn ≡ Some was = search rules in
    same_ok volatile _ c.args.txn was c.start_in.new.standing found (search rules) c.start_in.result c.start_in.ensures.same

pub returns-in-Some-clause-full : goal.returns-in-Some-clause-full
returns-in-Some-clause-full c = λ db kept old of same fits here idle planned list full.
    let volatile = c.args.volatile.now in
    let was = c.in-Some.standing.now in
    let found : (volatile_of volatile).standing c.args.txn ≡ Some was = search rules in
    let is : was ≡ standing.Undecided old = some_standing (sym found ∙ here) in
    long_in db volatile c.args.txn old here (λ choice x. on_request (txn_name c.args.txn) choice (State (volatile.version, c.args.statement)) x)
    (c.start_in.ensures.full db old of same is (participants_there db kept (volatile_of volatile) fits c.args.txn old here of) idle planned list full)
