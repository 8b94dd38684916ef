-- Why `resume` meets its contract.
use Rattle.std.proofs.Common.{rules, ◌≡◌, Some, true, sym, ◌∙◌, subst}
use Rattle.protocol.specs.Desk.{on_desk_letter}
use Rattle.protocol.specs.Letters.{txn_name}
use Rattle.desk.specs.declared.transaction.TxnState.TheVariants as standing
use Rattle.desk.specs.Database.{replied}
use Rattle.desk.specs.Does.{IsShort}
use Rattle.desk.specs.State.{volatile_of}
use Rattle.desk.proofs.Doing.{goes_ok, known_there, same_ok, short_there, some_standing, participants_there}
use Rattle.desk.proofs.Full.{long_in}
use Rattle.desk.proofs.receive.resume.Goals as goal

pub returns-in-Some-clause-resume_on : goal.returns-in-Some-clause-resume_on
returns-in-Some-clause-resume_on c = λ db kept old of same next fits here at.
    let volatile = c.args.volatile.now in
    let was = c.in-Some.standing.now in
    let found : (volatile_of volatile).standing c.args.txn ≡ Some was = search rules in
    let is : was ≡ standing.Undecided old = some_standing (sym found ∙ here) in
    goes_ok db kept volatile _ c.args.txn old c.resume_in.new.standing fits here (search rules) (λ choice x. on_desk_letter (txn_name c.args.txn) c.args.site.now true choice (replied db c.args.site.now c.args.reply.now) x) c.resume_in.result
    (c.resume_in.ensures.short (subst IsShort (sym is) (short_there db kept (volatile_of volatile) fits c.args.txn old here)))
    (c.resume_in.ensures.does db volatile.version old of same next is at (participants_there db kept (volatile_of volatile) fits c.args.txn old here of) (known_there db kept (volatile_of volatile) fits c.args.txn old here))

pub returns-in-Some-clause-err : goal.returns-in-Some-clause-err
returns-in-Some-clause-err c =
    let volatile = c.args.volatile.now in
    let was = c.in-Some.standing.now in
    let found : (volatile_of volatile).standing c.args.txn ≡ Some was = search rules in
    same_ok volatile _ c.args.txn was c.resume_in.new.standing found (search rules) c.resume_in.result c.resume_in.ensures.same

pub returns-in-Some-clause-full : goal.returns-in-Some-clause-full
returns-in-Some-clause-full c = λ db kept old of same next fits here at full.
    let volatile = c.args.volatile.now in
    let was = c.in-Some.standing.now in
    let found : (volatile_of volatile).standing c.args.txn ≡ Some was = search rules in
    let is : was ≡ standing.Undecided old = some_standing (sym found ∙ here) in
    long_in db volatile c.args.txn old here (λ choice x. on_desk_letter (txn_name c.args.txn) c.args.site.now true choice (replied db c.args.site.now c.args.reply.now) x)
    (c.resume_in.ensures.full db volatile.version old of same next is at (participants_there db kept (volatile_of volatile) fits c.args.txn old here of) (known_there db kept (volatile_of volatile) fits c.args.txn old here) full)
