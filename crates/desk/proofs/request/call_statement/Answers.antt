-- Why `call_statement` meets its contract.
use Rattle.std.proofs.Common.{rules, ◌≡◌, Err, sym, ap, ◌∙◌, subst, List}
use Rattle.catalog.specs.FragmentLeaf.{schemas_of}
use Rattle.meaning.specs.declared.schema.RelationSchema.{RelationSchema}
use Rattle.meaning.specs.Statement.{IsStatementOf}
use Rattle.reader.specs.declared.command.Command.TheVariants.{Run}
use Rattle.reader.specs.Command.{IsTextOf}
use Rattle.desk.proofs.Unread.{if_ok, ran_told, told_by, unread_by}
use Rattle.desk.proofs.request.call_statement.Goals as goal

pub returns-clause-ok : goal.returns-clause-ok
returns-clause-ok c = λ db kept of same fits.
    let statement = c.in_ok-statement.statement in
    let schemas = of.schemas c.args.volatile.now.version ∙ ap schemas_of same in
    if_ok c.call_run.result (λ out runs. record {
      statement = statement;
      spelled = subst (λ (ss : List RelationSchema). IsTextOf ss c.args.text.now (Run statement)) (sym schemas) c.in_ok-statement.ensures.read.spelled;
      fits = subst (λ (ss : List RelationSchema). IsStatementOf ss statement) (sym schemas) c.in_ok-statement.ensures.read.fits;
      runs = runs;
    }) (c.call_run.ensures.ok db kept of same fits)

pub returns-clause-told : goal.returns-clause-told
returns-clause-told c = λ db other.
    ran_told c.call_run.result _ _ _ _ _ _ _ _ (c.in_ok-may_state.ensures.accepted db c.in_ok-statement.statement) (c.in_ok-may_state.ensures.accepted db other) c.in_ok-statement.ensures.read.ordinary (c.call_run.ensures.told db)

pub returns-in_err-may_state-clause-told : goal.returns-in_err-may_state-clause-told
returns-in_err-may_state-clause-told c = λ db statement.
    let is : c.from_residual.result ≡ Err c.in_err-may_state.field-0.0 = search rules in
    told_by _ _ _ _ _ is (c.in_err-may_state.ensures.told db statement)

pub returns-clause-full : goal.returns-clause-full
returns-clause-full c = λ db kept of same fits full.
    let statement = c.in_ok-statement.statement in
    let schemas = of.schemas c.args.volatile.now.version ∙ ap schemas_of same in
    record {
      statement = statement;
      spelled = subst (λ (ss : List RelationSchema). IsTextOf ss c.args.text.now (Run statement)) (sym schemas) c.in_ok-statement.ensures.read.spelled;
      fits = subst (λ (ss : List RelationSchema). IsStatementOf ss statement) (sym schemas) c.in_ok-statement.ensures.read.fits;
      past = c.call_run.ensures.full db kept of same fits full;
    }

pub returns-in_err-may_state-clause-full : goal.returns-in_err-may_state-clause-full
returns-in_err-may_state-clause-full c = λ db kept of same fits full. absurd (c.in_err-may_state.ensures.own (search rules))

pub returns-in_err-statement-clause-told : goal.returns-in_err-statement-clause-told
returns-in_err-statement-clause-told c = λ db statement.
    let is : c.from_residual-in_err-statement.result ≡ Err c.in_err-statement.field-0.0 = search rules in
    unread_by _ _ _ _ _ _ _ is (c.in_ok-may_state.ensures.accepted db statement) c.in_err-statement.ensures.told
