-- Why `run` meets its contract.
use Rattle.std.proofs.Common.{◌≡◌, ◌⊎◌, None, true, IfOk, IfErr, sym, subst}
use Rattle.catalog.specs.FragmentLeaf.{schemas_of}
use Rattle.catalog.specs.Relation.{catalogue_of}
use Rattle.meaning.specs.declared.statement.Statement.{Statement}
use Rattle.meaning.specs.Statement.{IsStatementOf, is_refragment}
use Rattle.protocol.specs.Desk.{State, refusal}
use Rattle.desk.specs.declared.refusal.Refusal.TheVariants as refusals
use Rattle.desk.specs.Does.{Runs, RunsPastLimits}
use Rattle.desk.specs.Request.{WhyNotStated, txn_in}
use Rattle.desk.specs.State.{volatile_of}
use Rattle.desk.proofs.desk.Desk.run.Goals as goal

pub call_run-requires : goal.call_run-requires
call_run-requires g c = subst (IsStatementOf (schemas_of (catalogue_of c.args.self.now.catalog))) (sym c.in_ok-copy.ensures) c.requires

pub returns-clause-ok : goal.returns-clause-ok
returns-clause-ok g c = λ db of same fits.
    let kept = g.S.DeskStore.kept c.args.self.now.store in
    subst (λ (s : Statement). IfOk c.call_run.result (λ out. Runs db (volatile_of c.args.self.now.volatile) kept (volatile_of c.call_run.new.volatile) c.args.txn s out.letters out.replies)) c.in_ok-copy.ensures (c.call_run.ensures.ok db kept of same fits)

pub returns-clause-told : goal.returns-clause-told
returns-clause-told g c = λ db.
    let volatile = c.args.self.now.volatile in
    subst (λ (s : Statement). IfErr c.call_run.result (λ told. (told ≡ refusals.Memory) ⊎ WhyNotStated db (volatile_of volatile) c.args.txn s told
    ⊎ ((refusal (State (volatile.version, s)) (txn_in db (volatile_of volatile) c.args.txn) ≡ None) × (((is_refragment s ≡ true) × (told ≡ refusals.Busy)) ⊎ (told ≡ refusals.Full)))))
    c.in_ok-copy.ensures (c.call_run.ensures.told db)

pub returns-clause-full : goal.returns-clause-full
returns-clause-full g c = λ db of same fits full.
    subst (RunsPastLimits db (volatile_of c.args.self.now.volatile) c.args.txn) c.in_ok-copy.ensures (c.call_run.ensures.full db (g.S.DeskStore.kept c.args.self.now.store) of same fits full)
