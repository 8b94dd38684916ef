-- Why `start_in` meets its contract.
use Rattle.std.proofs.Common.{rules, ◌≡◌, sym, ap, ◌∙◌, subst, IfOk}
use Rattle.protocol.specs.Desk.{Known, State, on_request}
use Rattle.protocol.specs.Letters.{txn_name}
use Rattle.desk.specs.declared.transaction.TxnState.TheVariants as standing
use Rattle.desk.specs.declared.transaction.Undecided.{Undecided}
use Rattle.desk.specs.Does.{Does, IsLong}
use Rattle.desk.specs.Transaction.{undecided_of}
use Rattle.desk.specs.Transition.{AreParticipants}
use Rattle.desk.proofs.Doing.{undecided_is}
use Rattle.desk.proofs.request.start_in.Goals as goal

pub returns-in-Undecided-clause-does : goal.returns-in-Undecided-clause-does
returns-in-Undecided-clause-does c = λ db old of same here are idle planned list.
    let now = c.in-Undecided.undecided in
    let there : c.args.standing.now ≡ standing.Undecided now = search rules in
    let is : old ≡ now = undecided_is (sym here ∙ there) in
    subst (λ (x : Undecided). IfOk c.start_reading.result (λ step. Does db c.args.version c.args.txn c.start_reading.new.undecided step (λ choice. on_request (txn_name c.args.txn) choice (State (c.args.version, c.args.statement)) (Known (undecided_of db x))))) (sym is)
    (c.start_reading.ensures.does db of same (subst (λ (x : Undecided). AreParticipants db x.participants) is are) (sym (ap (λ (x : Undecided). x.stage) is) ∙ idle) planned list)

pub returns-in-Undecided-clause-full : goal.returns-in-Undecided-clause-full
returns-in-Undecided-clause-full c = λ db old of same here are idle planned list full.
    let now = c.in-Undecided.undecided in
    let there : c.args.standing.now ≡ standing.Undecided now = search rules in
    let is : old ≡ now = undecided_is (sym here ∙ there) in
    subst (λ (x : Undecided). IsLong db (λ choice. on_request (txn_name c.args.txn) choice (State (c.args.version, c.args.statement)) (Known (undecided_of db x)))) (sym is)
    (c.start_reading.ensures.full db of same (subst (λ (x : Undecided). AreParticipants db x.participants) is are) (sym (ap (λ (x : Undecided). x.stage) is) ∙ idle) planned list full)
