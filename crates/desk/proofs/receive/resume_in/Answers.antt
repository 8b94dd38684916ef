-- Why `resume_in` meets its contract.
use Rattle.std.proofs.Common.{rules, ◌≡◌, true, sym, ◌∙◌, subst, IfOk}
use Rattle.std.specs.List.{list_any}
use Rattle.protocol.specs.Desk.{on_known}
use Rattle.protocol.specs.Letters.{txn_name}
use Rattle.desk.specs.declared.transaction.TxnState.TheVariants as standing
use Rattle.desk.specs.declared.transaction.Undecided.{Undecided}
use Rattle.desk.specs.Database.{replied}
use Rattle.desk.specs.Does.{Does, IsLong}
use Rattle.desk.specs.Participants.{is_at}
use Rattle.desk.specs.Transaction.{undecided_of}
use Rattle.desk.specs.State.{IsIn}
use Rattle.desk.specs.Transition.{AreParticipants}
use Rattle.desk.proofs.Doing.{undecided_is}
use Rattle.desk.proofs.receive.resume_in.Goals as goal

pub returns-in-Undecided-clause-does : goal.returns-in-Undecided-clause-does
returns-in-Undecided-clause-does c = λ db n old of same next here at are known.
    let now = c.in-Undecided.undecided in
    let there : c.args.standing.now ≡ standing.Undecided now = search rules in
    let is : old ≡ now = undecided_is (sym here ∙ there) in
    subst (λ (x : Undecided). IfOk c.resume_on.result (λ step. Does db n c.args.txn c.resume_on.new.undecided step (λ choice. on_known (txn_name c.args.txn) (undecided_of db x) c.args.site.now true choice (replied db c.args.site.now c.args.reply.now)))) (sym is)
    (c.resume_on.ensures.does db n of same next (subst (λ (x : Undecided). list_any (is_at c.args.site.now) x.participants ≡ true) is at) (subst (λ (x : Undecided). AreParticipants db x.participants) is are) (subst (λ (x : Undecided). IsIn db n (standing.Undecided x)) is known))

pub returns-in-Undecided-clause-full : goal.returns-in-Undecided-clause-full
returns-in-Undecided-clause-full c = λ db n old of same next here at are known full.
    let now = c.in-Undecided.undecided in
    let there : c.args.standing.now ≡ standing.Undecided now = search rules in
    let is : old ≡ now = undecided_is (sym here ∙ there) in
    subst (λ (x : Undecided). IsLong db (λ choice. on_known (txn_name c.args.txn) (undecided_of db x) c.args.site.now true choice (replied db c.args.site.now c.args.reply.now))) (sym is)
    (c.resume_on.ensures.full db n of same next (subst (λ (x : Undecided). list_any (is_at c.args.site.now) x.participants ≡ true) is at) (subst (λ (x : Undecided). AreParticipants db x.participants) is are) (subst (λ (x : Undecided). IsIn db n (standing.Undecided x)) is known) full)
